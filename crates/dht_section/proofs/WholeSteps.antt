-- What a section sees of a directory that is whole, while its call is alone.
use Rattle.std.proofs.Common.{◌≡◌, ◌<◌, ◌+◌, ◌-◌, ◌⊎◌, ℕ, true, false, refl, sym, ◌∙◌, ap, subst, arith, inl, inr, List}
use Rattle.std.specs.Prelude.{Option, Some, None, length, nat_lt}
use Rattle.std.proofs.lemmas.Bool.Decides.{nat_tests}
use Rattle.dht_types.specs.Gfid.{Entry}
use Rattle.dht_types.specs.History.{IsAlone, is_carried}
use Rattle.dht_types.specs.declared.identifiers.BrickNo.{BrickNo}
use Rattle.dht_types.specs.declared.identifiers.Gfid.{Gfid}
use Rattle.dht_brick.specs.Kinds.{reply_kind}
use Rattle.dht_brick.specs.declared.replies.Reply.{Reply}
use Rattle.dht_hash.specs.DaviesMeyer.{dm}
use Rattle.dht_hash.proofs.DaviesMeyerLaws.{dm_below}
use Rattle.dht_xattr.specs.Layout.{holder}
use Rattle.dht_xattr.proofs.LayoutLaws.{holder_none, holder_within}
use Rattle.dht_section.proofs.EarlyLaws.{nat_cases}
use Rattle.dht_section.proofs.HeldLaws.{place_is}
use Rattle.dht_section.proofs.LayoutLaws.{below_length, copied_holder}
use Rattle.dht_section.proofs.LocationLaws.{looked_is, in_tree, wanted}
use Rattle.dht_section.proofs.PlaceLaws.{set_there, set_other, below_or}
use Rattle.dht_section.proofs.SceneLaws.{IsQuiet, alone_before, row_reply, store_moved, tree_quiet}
use Rattle.dht_section.proofs.SectionLooks.{room_of}
use Rattle.dht_section.proofs.SectionSteps.{either_turn, unless_kept}
use Rattle.dht_section.proofs.ShownLaws.{carried_there}
use Rattle.dht_section.specs.Disk.{dir_at, layout_of}
use Rattle.dht_section.specs.Healed.{IsHealed, IsWhole, Self}
use Rattle.dht_section.specs.Location.{IsHeldAt, entry_at}
use Rattle.dht_section.specs.Looks.{looked_at, mark_at, sight_with, with_looked}
use Rattle.dht_section.specs.Moves.{Guarantee}
use Rattle.dht_section.specs.Replies.{fault_of, is_shown}
use Rattle.dht_section.specs.Scene.{IfAlone, Scene, Sound}
use Rattle.dht_section.specs.Section.{all_locked, begun, held_looked, last_lock, locked, look_ask, looked, looked_of, name_looked, section_after, section_stage, shows_gone}
use Rattle.dht_section.specs.SectionLaws.{bricks_are}
use Rattle.dht_section.specs.Stages.{MatchTurn, Served}
use Rattle.dht_section.specs.Want.{Scoped, name_at}
use Rattle.dht_section.specs.Whole.{AllShowed, EndsWhole, HasHolder, IsWholeOrGone, SeesWhole, ShowedCopies, ShowedOpened, ShowedSoFar, StoresTheSame}
use Rattle.dht_section.specs.WholeLaws.{whole_or_gone_stays}
use Rattle.dht_section.specs.declared.location.Location.{Location}
use Rattle.dht_section.specs.declared.looks.Looked.{Looked}
use Rattle.dht_section.specs.declared.looks.Sight.{Sight}
use Rattle.dht_section.specs.declared.machine.Ask.{Ask}
use Rattle.dht_section.specs.declared.machine.Turn.{Turn}
use Rattle.dht_section.specs.declared.machine.Turn.TheVariants.{Go, Done}
use Rattle.dht_section.specs.declared.section.Held.{Held}
use Rattle.dht_section.specs.declared.section.Opened.{Opened}
use Rattle.dht_section.specs.declared.section.Opened.TheVariants.{Held as Holding}
use Rattle.dht_section.specs.declared.section.Prepared.{Prepared}
use Rattle.dht_section.specs.declared.section.Section.{Section}
use Rattle.dht_section.specs.declared.section.Section.TheVariants.{Locking, Looking, Unlocking}
use Rattle.dht_section.specs.declared.section.Unheld.{Unheld}
use Rattle.dht_section.specs.declared.section.Unheld.TheVariants.{Gone, Stopped}

-- ---- a quiet request of one's own

pub quiet_same :
    (s t : Scene) (a : Ask) (r : Reply) → IsQuiet a.request → Guarantee s a r t → StoresTheSame s t
quiet_same s t a r q m = record {
  count = m.disk.count;
  weights = m.weights;
  tree = tree_quiet s t a r q m;
  stores = store_moved s t a r m q;
}

-- leaves what hangs on the tree and the bricks' stores alone
pub if_alone_moved :
    (P : Scene → Type 0) → ((s t : Scene) → StoresTheSame s t → P s → P t)
    → (s t : Scene) (a : Ask) (r : Reply) → IsQuiet a.request → IfAlone P s → Guarantee s a r t
    → IfAlone P t
if_alone_moved P stays s t a r q h m now = stays s t (quiet_same s t a r q m) (h (alone_before s t a r m now))

-- ---- the looks of a section

-- a look at a name of a directory that is whole is carried out
copy_shown :
    (w : Scoped) (n : ℕ) (b : BrickNo) (s t : Scene) (r : Reply) → fault_of r ≡ None
    → b.0 < s.disk.count → IsWhole s.disk (name_at w n).0 → Guarantee s (look_ask w n b) r t
    → is_carried (reply_kind r) ≡ true
copy_shown w n b s t r z l h m =
    ap (λ x. is_carried (reply_kind x)) (row_reply s t (look_ask w n b) r m z)
    ∙ (carried_there (dir_at s.disk b.0 (name_at w n).0) (s.disk.brick b.0) (name_at w n) ∙ h.copies b.0 l)

-- so the mark of one brick more is set
showed_more :
    (bricks : ℕ) (x : Sight) (b : BrickNo) (r : Reply) → b.0 < length x.copies
    → is_carried (reply_kind r) ≡ true → ShowedCopies b.0 x
    → ShowedCopies (b.0 + 1) (sight_with bricks x b r)
showed_more bricks x b r room e h i l = elim (nat_cases i b.0) [
  | inl q ↦ ap (mark_at (sight_with bricks x b r).copies) q ∙ (set_there x.copies b.0 (is_carried (reply_kind r)) false room ∙ e)
  | inr ne ↦ set_other x.copies b.0 i (is_carried (reply_kind r)) false room ne ∙ h i (below_or i b.0 (omega arith) ne)
]

-- and of one name more
all_more :
    (g : Gfid) (w : Scoped) (n : ℕ) (looks : List Looked) (x : Looked) → n < length looks
    → AllShowed g w n looks → ((name_at w n).0 ≡ g → ShowedCopies w.bricks x.sight)
    → AllShowed g w (n + 1) (with_looked looks n x)
all_more g w n looks x room h new j l e = elim (nat_cases j n) [
  | inl q ↦ subst (λ (i : ℕ). ShowedCopies w.bricks (looked_at (with_looked looks n x) i).sight) (sym q)
      (subst (λ (y : Looked). ShowedCopies w.bricks y.sight) (sym (set_there looks n x _ room)) (new (ap (λ (i : ℕ). (name_at w i).0) (sym q) ∙ e)))
  | inr ne ↦ subst (λ (y : Looked). ShowedCopies w.bricks y.sight) (sym (set_other looks n j x _ room ne)) (h j (below_or j n (omega arith) ne) e)
]

abbrev Showed : Gfid → Turn Section Opened → Type 0
Showed g turn = MatchTurn turn (ShowedSoFar g) (ShowedOpened g)

unheld_showed :
    (g : Gfid) (w : Scoped) (i : ℕ) (x : Unheld)
    → Showed g (Rattle.dht_section.specs.Section.unlocked w i x)
unheld_showed g w i (Gone d at) = either_turn (Showed g) (nat_lt 0 i) _ _ (λ e. tt) (λ e. tt)
unheld_showed g w i (Stopped x) = either_turn (Showed g) (nat_lt 0 i) _ _ (λ e. tt) (λ e. tt)

showed_next :
    (g : Gfid) (m : Section) (r : Reply) (at : ℕ) (s t : Scene) → Served (section_stage m) r at s t
    → IsWhole s.disk g → ShowedSoFar g m → Showed g (section_after m r at)
showed_next g (Locking w i looks) r at s t v whole h = unless_kept (Showed g) w i _ (fault_of r) (fault_of r) refl (λ e z. tt)
    (λ z. either_turn (Showed g) (is_carried (reply_kind r)) (locked w i looks) _
    (λ k. either_turn (Showed g) (nat_lt 1 (length w.keys - i)) _ (all_locked w looks) (λ q. tt)
    (λ q. either_turn (Showed g) (nat_lt 0 (length w.names)) _ _
    (λ f. (λ j l e. absurd (omega arith), λ e j l. absurd (omega arith)))
    (λ f. λ j l e. absurd (grind (arith, nat_tests, f, l)))))
    (λ k. tt))
showed_next g (Looking w looks n b x) r at s t v whole h = unless_kept (Showed g) w (last_lock w) _ (fault_of r) (fault_of r) refl (λ e z. tt)
    (λ z. either_turn (Showed g) (shows_gone (name_at w n).0 b r) _ _ (λ k. tt)
    (λ k. either_turn (Showed g) (is_shown r) (looked w looks n b (sight_with w.bricks x b r) at) _
    (λ q. either_turn (Showed g) (nat_lt 1 (w.bricks - b.0)) _ (name_looked w (with_looked looks n (record { sight = sight_with w.bricks x b r; at = at })) n)
    (λ f. (h.0, λ e. new z e))
    (λ f. either_turn (Showed g) (nat_lt 1 (length w.names - n)) _ _
    (λ y. (all z f, λ e j l. absurd (omega arith)))
    (λ y. subst (λ (i : ℕ). AllShowed g w i (with_looked looks n (record { sight = sight_with w.bricks x b r; at = at }))) (last y) (all z f))))
    (λ q. h)))
  where
    new : fault_of r ≡ None → (name_at w n).0 ≡ g → ShowedCopies (b.0 + 1) (sight_with w.bricks x b r)
    new z e =
        let k = v.is_at.knows in
        let room = (room_of (name_at w n) k.saw.full x b.0 s k.shown).1 in
        let bricks = bricks_are w s v.before k.fresh.scope in
        let few = v.before.kept.few in
        let within = k.within in
        showed_more w.bricks x b r (omega arith) (copy_shown w n b s t r z (omega arith) (subst (IsWhole s.disk) (sym e) whole) v.moved) (h.1 e)

    all : fault_of r ≡ None → nat_lt 1 (w.bricks - b.0) ≡ false → AllShowed g w (n + 1) (with_looked looks n (record { sight = sight_with w.bricks x b r; at = at }))
    all z f =
        let k = v.is_at.knows in
        let within = k.within in
        let room = k.room in
        let name = k.name in
        let end : b.0 + 1 ≡ w.bricks = grind (arith, nat_tests, f, within) in
        all_more g w n looks (record { sight = sight_with w.bricks x b r; at = at }) (omega arith) h.0 (λ e. subst (λ (i : ℕ). ShowedCopies i (sight_with w.bricks x b r)) end (new z e))

    last : nat_lt 1 (length w.names - n) ≡ false → n + 1 ≡ length w.names
    last y = let name = v.is_at.knows.name in grind (arith, nat_tests, y, name)
showed_next g (Unlocking w i x) r at s t v whole h = unheld_showed g w i x

-- a section's requests are quiet
pub asks_quiet : (m : Section) → IsQuiet (section_stage m).asks.request
asks_quiet (Locking w i looks) = tt
asks_quiet (Looking w looks n b x) = tt
asks_quiet (Unlocking w i x) = tt

whole_turn :
    (g : Gfid) (s t : Scene) (Before : Type 0) (turn : Turn Section Opened) → StoresTheSame s t
    → (IsAlone t.history t.mine → IsWholeOrGone g Before s)
    → (IsWhole s.disk g → Before → Showed g turn)
    → MatchTurn turn (λ n. SeesWhole g n t) (λ d. EndsWhole g d t)
whole_turn g s t Before (Go n) same h showed = λ now. whole_or_gone_stays s t g (ShowedSoFar g n) same (elim (h now) [
  | inl q ↦ inl (q.0, showed q.0 q.1)
  | inr q ↦ inr q
])
whole_turn g s t Before (Done d) same h showed = λ now. whole_or_gone_stays s t g (ShowedOpened g d) same (elim (h now) [
  | inl q ↦ inl (q.0, showed q.0 q.1)
  | inr q ↦ inr q
])

-- a section of a directory that is whole sees its copies, step by step
pub sees_whole_next :
    (g : Gfid) (m : Section) (r : Reply) (at : ℕ) (s t : Scene) → Served (section_stage m) r at s t
    → SeesWhole g m s
    → MatchTurn (section_after m r at) (λ n. SeesWhole g n t) (λ d. EndsWhole g d t)
sees_whole_next g m r at s t v h = whole_turn g s t (ShowedSoFar g m) (section_after m r at) (quiet_same s t _ r (asks_quiet m) v.moved) (λ now. h (alone_before s t _ r v.moved now)) (λ whole. showed_next g m r at s t v whole)

-- it begins after a heal that was alone
pub sees_whole_begun :
    (g : Gfid) (p : Prepared) (s : Scene)
    → IfAlone (λ s. IsHealed s.disk s.history.tree g ⊎ (s.history.tree.dirs g ≡ false)) s
    → SeesWhole g (begun p) s
sees_whole_begun g p s h now = elim (h now) [
  | inl q ↦ inl (q g Self, tt)
  | inr q ↦ inr q
]

-- ---- a section that is held

-- a directory that is whole has a holder of each name
whole_holder :
    (s : Scene) (e : Entry) → IsWhole s.disk e.0
    → (b : ℕ) × (holder (layout_of s.disk e.0) (dm e.1) ≡ Some b)
whole_holder s e h = by (holder (layout_of s.disk e.0) (dm e.1)) refl
  where
    by : (o : Option ℕ) → holder (layout_of s.disk e.0) (dm e.1) ≡ o → (b : ℕ) × (holder (layout_of s.disk e.0) (dm e.1) ≡ Some b)
    by None q = absurd (h.no_hole (dm e.1, dm_below e.1, holder_none (layout_of s.disk e.0) (dm e.1) q))
    by (Some b) q = (b, q)

-- the name's own looks
held_showed :
    (l : Location) (h : Held) (s : Scene) → IsHeldAt l h s
    → AllShowed l.directory h.scope (length h.scope.names) h.looks
    → ShowedCopies h.scope.bricks (held_looked h (entry_at l)).sight
held_showed l h s k all =
    let p = place_is h.scope (entry_at l) (wanted l h k.scope) in
    subst (λ (x : Looked). ShowedCopies h.scope.bricks x.sight) (sym (ap (λ (o : Option ℕ). looked_of o h.looks) p.is))
    (all p.place p.within (ap (λ (x : Entry). x.0) p.name))

-- a section that is held after a heal has a holder of its name, which showed its copy
pub ends_with_holder :
    (l : Location) (h : Held) (s : Scene) → Sound s → IsHeldAt l h s
    → EndsWhole l.directory (Holding h) s → IsAlone s.history s.mine → HasHolder l h s
ends_with_holder l h s sound k ends now = elim (ends now) [
  | inr q ↦ absurd (let z : false ≡ true = sym q ∙ in_tree l h s sound k in cc)
  | inl q ↦ has_it q.0 (held_showed l h s k q.1)
]
  where
    has_it : IsWhole s.disk l.directory → ShowedCopies h.scope.bricks (held_looked h (entry_at l)).sight → HasHolder l h s
    has_it whole showed =
        let x = looked_is l h s k in
        let bricks = bricks_are h.scope s sound k.held.fresh.scope in
        let w = whole_holder s (entry_at l) whole in
        let below = holder_within (layout_of s.disk l.directory) (dm l.name) w.0 w.1 in
        let all = below_length s.disk l.directory s.disk.count in
        record {
          brick = w.0;
          there = omega arith;
          holds = copied_holder (entry_at l) (held_looked h (entry_at l)).sight s (λ i j. showed i (let size = x.whole in omega arith)) (x.whole ∙ sym bricks) x.read ∙ w.1;
          copied = showed w.0 (omega arith);
        }
