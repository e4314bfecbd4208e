-- What is known of a directory that was read.
use Rattle.std.proofs.Common.{◌≡◌, ◌≢◌, ◌<◌, ◌+◌, ℕ, Bool, true, false, refl, sym, ◌∙◌, ap, subst, inl, inr, arith, List, [], ◌∷◌, ◌++◌}
use Rattle.std.specs.Prelude.{Option, Some, None, is_some, length, nat_eq, nat_lt, ◌&&◌, if◌then◌else◌, slice_index_or}
use Rattle.std.proofs.Common.{length-append}
use Rattle.std.proofs.lemmas.Bool.Decides.{nat_tests}
use Rattle.std.proofs.Math.ListN.{get_or-append}
use Rattle.std.proofs.Math.Seq.{get_or-append_seam}
use Rattle.dht_types.proofs.PutLaws.{exact_nat}
use Rattle.dht_types.specs.Gfid.{Entry, home}
use Rattle.dht_types.specs.History.{is_carried}
use Rattle.dht_types.specs.declared.identifiers.BrickNo.{BrickNo}
use Rattle.dht_types.specs.declared.identifiers.Gfid.{Gfid}
use Rattle.dht_types.specs.declared.stored.DirRecord.{DirRecord}
use Rattle.dht_xattr.specs.Plan.{planned}
use Rattle.dht_xattr.specs.declared.range.Range.{Range}
use Rattle.dht_brick.specs.Kinds.{reply_kind}
use Rattle.dht_brick.specs.declared.replies.Reply.{Reply}
use Rattle.dht_section.proofs.EarlyLaws.{nat_cases}
use Rattle.dht_section.proofs.PlaceLaws.{set_there, set_other, below_or}
use Rattle.dht_section.proofs.SceneLaws.{IsQuiet, row_reply, dir_moved}
use Rattle.dht_section.proofs.ShownLaws.{asks_look, look_reply, range_there, carried_there, root_there}
use Rattle.dht_section.specs.Disk.{dir_at, range_of, range_at}
use Rattle.dht_section.specs.Looks.{is_nodir, lengthened, mark_at, sight_with}
use Rattle.dht_section.specs.Moves.{Guarantee}
use Rattle.dht_section.specs.Planned.{bounds, AllPlanned}
use Rattle.dht_section.specs.Replies.{fault_of, range_shown}
use Rattle.dht_section.specs.Scene.{Scene, Sound}
use Rattle.dht_section.specs.Section.{ReadAt, Reads, shows_gone}
use Rattle.dht_section.specs.declared.looks.Sight.{Sight}
use Rattle.dht_section.specs.declared.machine.Ask.{Ask}

-- ---- a look

look_range :
    (e : Entry) (b : BrickNo) (s t : Scene) (r : Reply) → fault_of r ≡ None
    → Guarantee s (asks_look e b) r t → range_shown r ≡ range_at s.disk e.0 b.0
look_range e b s t r z m = ap range_shown (row_reply s t _ r m z) ∙ range_there (dir_at s.disk b.0 e.0) (s.disk.brick b.0) e

-- the home's look is the section's end where the home has no copy
not_both : (a b : Bool) → (a && b) ≡ false → a ≡ true → b ≡ true → ⊥
not_both true true h e k = absurd (let z : true ≡ false = h in cc)
not_both true false h e k = absurd (let z : false ≡ true = k in cc)
not_both false b h e k = absurd (let z : false ≡ true = e in cc)

-- what it shows of the directory
pub look_read :
    (e : Entry) (b : BrickNo) (s t : Scene) (r : Reply) → Sound s → b.0 < s.disk.count
    → fault_of r ≡ None → shows_gone e.0 b r ≡ false → Guarantee s (asks_look e b) r t
    → ReadAt e.0 (is_carried (reply_kind r)) (range_shown r) b.0 t
look_read e b s t r sound l z going m = subst (λ (mark : Bool). ReadAt e.0 mark (range_shown r) b.0 t) (sym (ap (λ x. is_carried (reply_kind x)) reply ∙ carried_there (dir_at s.disk b.0 e.0) (s.disk.brick b.0) e)) (by (dir_at s.disk b.0 e.0) refl)
  where
    reply : r ≡ look_reply (dir_at s.disk b.0 e.0) (s.disk.brick b.0) e
    reply = row_reply s t _ r m z

    same : dir_at t.disk b.0 e.0 ≡ dir_at s.disk b.0 e.0
    same = dir_moved s t _ r m tt e.0 b.0

    by : (o : Option DirRecord) → dir_at s.disk b.0 e.0 ≡ o → ReadAt e.0 (is_some (dir_at s.disk b.0 e.0)) (range_shown r) b.0 t
    by None q = subst (λ (mark : Bool). ReadAt e.0 mark (range_shown r) b.0 t) (ap is_some (sym q)) (record {
      below = λ k. (let z : false ≡ true = ap is_some (sym q) ∙ root_there s e.0 b.0 sound k l in cc);
      away = λ k. not_both (is_nodir r) (nat_eq b.0 (home e.0)) going (ap is_nodir (reply ∙ ap (λ o. look_reply o (s.disk.brick b.0) e) q)) ((exact_nat b.0 (home e.0)).1 k);
      nothing = look_range e b s t r z m ∙ ap range_of q;
      still = inl (same ∙ q);
    })
    by (Some x) q = subst (λ (mark : Bool). ReadAt e.0 mark (range_shown r) b.0 t) (ap is_some (sym q)) (record {
      there = ap is_some (same ∙ q);
      same = ap bounds (look_range e b s t r z m ∙ ap range_of (sym same));
    })

-- ---- what stays where the directory's records stay

module _ (s t : Scene) (g : Gfid) (same : (b : ℕ) → dir_at t.disk b g ≡ dir_at s.disk b g) (count : t.disk.count ≡ s.disk.count) (weights : t.history.weights ≡ s.history.weights) where
  planned_kept : AllPlanned s.disk s.history.weights g → AllPlanned t.disk t.history.weights g
  planned_kept h b x l e = elim (h b x (omega arith) (sym (same b) ∙ e)) [
    | inl z ↦ inl z
    | inr z ↦ inr (z ∙ ap (λ ws. bounds (slice_index_or (planned ws g) b None)) (sym weights))
  ]

  read_kept : (mark : Bool) (read : Option Range) (b : ℕ) → ReadAt g mark read b s → ReadAt g mark read b t
  read_kept true read b h = record {
    there = ap is_some (same b) ∙ h.there;
    same = h.same ∙ ap (λ o. bounds (range_of o)) (sym (same b));
  }
  read_kept false read b h = record {
    below = h.below;
    away = h.away;
    nothing = h.nothing;
    still = elim h.still [
      | inl z ↦ inl (same b ∙ z)
      | inr z ↦ inr (planned_kept z)
    ];
  }

  pub reads_kept : (x : Sight) → Reads g x s → Reads g x t
  reads_kept x h b l = read_kept (mark_at x.copies b) (slice_index_or x.layout b None) b (h b l)

-- as they do where a quiet request of one's own was answered
pub reads_moved :
    (s t : Scene) (a : Ask) (r : Reply) → IsQuiet a.request → (g : Gfid) (x : Sight) → Reads g x s
    → Guarantee s a r t → Reads g x t
reads_moved s t a r q g x h m = reads_kept s t g (dir_moved s t a r m q g) m.disk.count m.weights x h

-- ---- with one brick more

pub longer :
    (ranges : List (Option Range)) (range : Option Range) → length ranges < 32
    → lengthened ranges range ≡ ranges ++ range ∷ []
longer ranges range h = by (nat_lt (length ranges) 32) refl
  where
    by : (v : Bool) → nat_lt (length ranges) 32 ≡ v → (if v then ranges ++ range ∷ [] else ranges) ≡ ranges ++ range ∷ []
    by true e = refl
    by false e = absurd (grind (arith, nat_tests, h, e))

pub longer_length :
    (ranges : List (Option Range)) (range : Option Range) → length ranges < 32
    → length (lengthened ranges range) ≡ length ranges + 1
longer_length ranges range h = ap length (longer ranges range h) ∙ length-append ranges (range ∷ [])

pub longer_there :
    (ranges : List (Option Range)) (range : Option Range) → length ranges < 32
    → slice_index_or (lengthened ranges range) (length ranges) None ≡ range
longer_there ranges range h = ap (λ x. slice_index_or x (length ranges) None) (longer ranges range h) ∙ get_or-append_seam ranges range [] None

pub longer_below :
    (ranges : List (Option Range)) (range : Option Range) (i : ℕ) → length ranges < 32
    → i < length ranges
    → slice_index_or (lengthened ranges range) i None ≡ slice_index_or ranges i None
longer_below ranges range i h l = ap (λ x. slice_index_or x i None) (longer ranges range h) ∙ get_or-append ranges (range ∷ []) None i l

read_as :
    (g : Gfid) (a b : Bool) (x y : Option Range) (i : ℕ) (t : Scene) → a ≡ b → x ≡ y
    → ReadAt g a x i t → ReadAt g b y i t
read_as g a b x y i t e k h = subst (λ (mark : Bool). ReadAt g mark y i t) e (subst (λ (o : Option Range). ReadAt g a o i t) k h)

pub reads_more :
    (bricks : ℕ) (g : Gfid) (x : Sight) (b : BrickNo) (r : Reply) (t : Scene)
    → length x.layout ≡ b.0 → length x.copies ≡ 32 → b.0 < 32 → Reads g x t
    → ReadAt g (is_carried (reply_kind r)) (range_shown r) b.0 t
    → Reads g (sight_with bricks x b r) t
reads_more bricks g x b r t whole room few h new i l = elim (nat_cases i b.0) [
  | inl q ↦ subst (λ (j : ℕ). ReadAt g (mark_at y.copies j) (slice_index_or y.layout j None) j t) (sym q) here
  | inr ne ↦ elsewhere ne
]
  where
    y : Sight
    y = sight_with bricks x b r

    short : length x.layout < 32
    short = omega arith

    here : ReadAt g (mark_at (sight_with bricks x b r).copies b.0) (slice_index_or (sight_with bricks x b r).layout b.0 None) b.0 t
    here = read_as g _ _ _ _ b.0 t (sym (set_there x.copies b.0 (is_carried (reply_kind r)) false (omega arith)))
        (sym (ap (λ (j : ℕ). slice_index_or (lengthened x.layout (range_shown r)) j None) (sym whole) ∙ longer_there x.layout (range_shown r) short)) new

    elsewhere : i ≢ b.0 → ReadAt g (mark_at (sight_with bricks x b r).copies i) (slice_index_or (sight_with bricks x b r).layout i None) i t
    elsewhere ne =
        let size = longer_length x.layout (range_shown r) short in
        let below : i < length x.layout = (let k = below_or i b.0 (omega arith) ne in omega arith) in
        read_as g _ _ _ _ i t (sym (set_other x.copies b.0 i (is_carried (reply_kind r)) false (omega arith) ne))
        (sym (longer_below x.layout (range_shown r) i short below)) (h i below)
