-- The steps of the section while it looks at names.
use Rattle.std.proofs.Common.{◌≡◌, ◌≢◌, ◌<◌, ◌+◌, ◌-◌, ℕ, Bool, true, false, refl, sym, ◌∙◌, ap, subst, arith, inl, inr, List}
use Rattle.std.specs.Prelude.{suc, Option, Some, None, is_some, length, nat_lt, nat_eq, ◌&&◌, ◌||◌, slice_index_or}
use Rattle.std.proofs.lemmas.Bool.Decides.{nat_tests}
use Rattle.dht_types.proofs.PutLaws.{exact_nat, exact_gfid}
use Rattle.dht_types.specs.Gfid.{Entry, home}
use Rattle.dht_types.specs.Tree.{Tree}
use Rattle.dht_types.specs.declared.errors.Errno.{Errno}
use Rattle.dht_types.specs.declared.identifiers.BrickNo.{BrickNo}
use Rattle.dht_types.specs.declared.identifiers.Gfid.{Gfid}
use Rattle.dht_types.specs.declared.stored.DirRecord.{DirRecord}
use Rattle.dht_types.specs.declared.stored.Main.{Main}
use Rattle.dht_types.specs.declared.stored.Main.TheVariants.{Dir as ADir, File as AFile, Linkto}
use Rattle.dht_types.specs.declared.stored.Slot.{Slot}
use Rattle.dht_types.specs.declared.stored.Record.{Record}
use Rattle.dht_brick.specs.Contents.{Contents, Store, file}
use Rattle.dht_brick.specs.Looks.{shape_of}
use Rattle.dht_brick.specs.Parts.{is_file, is_standlink}
use Rattle.dht_brick.specs.declared.replies.Reply.{Reply}
use Rattle.dht_section.proofs.ClaimLaws.{claims_more}
use Rattle.dht_section.proofs.EarlyLaws.{nat_cases}
use Rattle.dht_section.proofs.PlaceLaws.{set_length, set_there, set_other, below_or}
use Rattle.dht_section.proofs.ReadLaws.{longer_length, look_read, reads_more, reads_moved}
use Rattle.dht_section.proofs.SceneLaws.{IsQuiet, row_reply, store_moved, slot_moved, lock_moved, deeds_quiet, tree_quiet, stands_moved, fault_earned}
use Rattle.dht_section.proofs.ShownLaws.{look_reply, full_of, none_below, look_main, look_hop, look_answered, node_there, saw_all, saw_more}
use Rattle.dht_section.proofs.SectionLocks.{fresh_moved, nothing_of}
use Rattle.dht_section.proofs.UnlockingSteps.{scope_moved}
use Rattle.dht_section.specs.Disk.{slot_at, file_at, dir_at}
use Rattle.dht_section.specs.Looks.{main_shown, links_shown, hop_shown, what_by, hop_by, sight_with, no_sight, looked_at, mark_at, linkto_in, with_looked, is_nodir, looks_left}
use Rattle.dht_section.specs.Moves.{Guarantee}
use Rattle.dht_section.specs.Replies.{fault_of, is_shown, range_shown}
use Rattle.dht_section.specs.Scene.{Scene, Sound}
use Rattle.dht_section.specs.Section.{Saw, ShownBelow, ShownOf, StandsSeen, HasRoom, ReadAt, Reads, look_ask, last_lock, HasScope, IsFresh, AllHeld, SawAt, BrickShown, FileShown, WhatShown, Shown, IsLooked, AllLooked, WasGone, shows_gone, section_stage, opened_ending}
use Rattle.dht_section.specs.SectionLaws.{bricks_are}
use Rattle.dht_section.specs.Shapes.{Bare, Folder, Plain}
use Rattle.dht_section.specs.Stages.{Served, GoesOn, EndsIn}
use Rattle.dht_section.specs.Views.{links_to}
use Rattle.dht_section.specs.Want.{Scoped, key_at, name_at, dir_of}
use Rattle.dht_section.specs.declared.looks.Linkto.TheVariants.{No}
use Rattle.dht_section.specs.declared.looks.Looked.{Looked}
use Rattle.dht_section.specs.declared.looks.Sight.{Sight}
use Rattle.dht_section.specs.declared.looks.What.{What}
use Rattle.dht_section.specs.declared.looks.What.TheVariants.{Absent, Dir, File}
use Rattle.dht_section.specs.declared.machine.Ask.{Ask}
use Rattle.dht_section.specs.declared.section.Opened.TheVariants.{Held as Holding}
use Rattle.dht_section.specs.declared.section.Section.TheVariants.{Looking, Unlocking}
use Rattle.dht_section.specs.declared.section.Unheld.TheVariants.{Gone, Stopped}

-- ---- how many looks are left

more_left : (bricks names : ℕ) → looks_left bricks (suc names) ≡ looks_left bricks names + bricks
unfolding looks_left
more_left bricks names = refl

-- those of a name, and of the names after it
pub left_now :
    (bricks n count : ℕ) → n < count
    → looks_left bricks (count - n) ≡ looks_left bricks (count - suc n) + bricks
left_now bricks n count l =
    let e : count - n ≡ suc (count - suc n) = omega arith in
    ap (looks_left bricks) e ∙ more_left bricks (count - suc n)

-- ---- what one look shows

is_link :
    (f : Gfid) (over : Option BrickNo) (p : Slot) → p.main ≡ Some (AFile f over)
    → links_to f p ≡ true
is_link f over p e = ap (λ (m : Option Main). is_file f m || is_standlink f p.standby) e ∙ ap (λ (b : Bool). b || is_standlink f p.standby) ((exact_gfid f f).1 refl)

-- what is known of a file after a look at one more brick
what_more :
    (e : Entry) (x : What) (hop : ℕ) (b : BrickNo) (m : Option Main) (links shown : ℕ) (t : Scene)
    → WhatShown e x hop t
    → ((f : Gfid) (over : Option BrickNo) → m ≡ Some (AFile f over) → FileShown e b.0 f shown t)
    → WhatShown e (what_by x b m links) (hop_by hop m shown) t
what_more e x hop b None links shown t h new = h
what_more e x hop b (Some (ADir g)) links shown t h new = tt
what_more e x hop b (Some (AFile f over)) links shown t h new = new f over refl
what_more e x hop b (Some (Linkto value)) links shown t h new = h

-- ---- what a look leaves

held_moved :
    (w : Scoped) (i n : ℕ) (b : BrickNo) (s t : Scene) (r : Reply) → AllHeld w i s
    → Guarantee s (look_ask w n b) r t → AllHeld w i t
held_moved w i n b s t r h m j l = lock_moved s t _ r m (dir_of (key_at w j)) (key_at w j) tt ∙ h j l

saw_at_moved :
    (e : Entry) (x : Looked) (s t : Scene) (a : Ask) (r : Reply) → IsQuiet a.request → SawAt e x s
    → Guarantee s a r t → SawAt e x t
saw_at_moved e x s t a r quiet h m =
    let later = m.later in
    let before = h.before in
    let after = h.after in
    let since = m.mine.since in
    record {
      after = omega arith;
      before = omega arith;
      directory = ap (λ (p : Tree). p.dirs e.0) (m.past x.at h.before) ∙ h.directory;
      node = ap (λ (p : Tree). p.names e) (m.past x.at h.before) ∙ h.node;
      descent = h.descent;
      was = ap (λ (p : Tree). p.descents e.0) (m.past x.at h.before) ∙ h.was;
      is = ap (λ (p : Tree). p.descents e.0) (tree_quiet s t a r quiet m) ∙ h.is;
    }

file_moved :
    (w : Scoped) (n : ℕ) (b : BrickNo) (s t : Scene) (r : Reply) → Guarantee s (look_ask w n b) r t
    → (f : Gfid) (i : ℕ) → file_at t.disk i f ≡ file_at s.disk i f
file_moved w n b s t r m f i = ap (λ (x : Store). file x f) (store_moved s t _ r m tt i)

file_shown_moved :
    (w : Scoped) (n : ℕ) (b : BrickNo) (e : Entry) (c : ℕ) (f : Gfid) (hop : ℕ) (s t : Scene)
    (r : Reply)
    → FileShown e c f hop s → Guarantee s (look_ask w n b) r t → FileShown e c f hop t
file_shown_moved w n b e c f hop s t r h m =
    let there = h.there in
    let count = m.disk.count in
    record {
      there = omega arith;
      link = ap (links_to f) (slot_moved s t _ r m tt e c) ∙ h.link;
      moved = h.moved ∙ ap (λ (o : Option Record). (shape_of o).hop) (sym (file_moved w n b s t r m f c));
    }

what_moved :
    (w : Scoped) (n : ℕ) (b : BrickNo) (e : Entry) (x : What) (hop : ℕ) (s t : Scene) (r : Reply)
    → WhatShown e x hop s → Guarantee s (look_ask w n b) r t → WhatShown e x hop t
what_moved w n b e Absent hop s t r h m = tt
what_moved w n b e (Dir g) hop s t r h m = tt
what_moved w n b e (File f c links) hop s t r h m = file_shown_moved w n b e c.0 f hop s t r h m

brick_moved :
    (w : Scoped) (n : ℕ) (b : BrickNo) (e : Entry) (x : Sight) (i : ℕ) (s t : Scene) (r : Reply)
    → BrickShown e x i s → Guarantee s (look_ask w n b) r t → BrickShown e x i t
brick_moved w n b e x i s t r p m =
    let there = p.there in
    let count = m.disk.count in
    record {
      there = omega arith;
      linkto = p.linkto
          ∙ (ap (λ ws. linkto_in (length ws) (slot_at s.disk i e).main) (sym m.weights)
          ∙ ap (λ (v : Slot). linkto_in (length t.history.weights) v.main) (sym (slot_moved s t _ r m tt e i)));
    }

shown_moved :
    (w : Scoped) (n : ℕ) (b : BrickNo) (e : Entry) (x : Sight) (limit : ℕ) (s t : Scene) (r : Reply)
    → Shown e x limit s → Guarantee s (look_ask w n b) r t → Shown e x limit t
shown_moved w n b e x limit s t r h m = record {
  room = h.room;
  bricks = λ i l. brick_moved w n b e x i s t r (h.bricks i l) m;
  file = what_moved w n b e x.what x.hop s t r h.file m;
}

-- with one brick more
room_more :
    (w : Scoped) (b : BrickNo) (x : Sight) (r : Reply) → b.0 < 32 → HasRoom x
    → HasRoom (sight_with w.bricks x b r)
room_more w b x r few h = (
  set_length x.linktos b.0 _ (let q = h.0 in omega arith) ∙ h.0,
  set_length x.copies b.0 _ (let q = h.1 in omega arith) ∙ h.1,
)

shown_more :
    (w : Scoped) (n : ℕ) (b : BrickNo) (x : Sight) (s t : Scene) (r : Reply) → Sound s
    → HasScope w s → b.0 < s.disk.count → b.0 < 32 → fault_of r ≡ None → Shown (name_at w n) x b.0 s
    → Guarantee s (look_ask w n b) r t → Shown (name_at w n) (sight_with w.bricks x b r) (b.0 + 1) t
shown_more w n b x s t r sound scope there few z h m = record {
  room = room_more w b x r few h.room;
  bricks = λ i l. elim (nat_cases i b.0) [
    | inl q ↦ subst (λ (j : ℕ). BrickShown e (sight_with w.bricks x b r) j t) (sym q) here
    | inr ne ↦ elsewhere i ne (brick_moved w n b e x i s t r (h.bricks i (below_or i b.0 (omega arith) ne)) m)
  ];
  file = what_more e x.what x.hop b (main_shown r) (links_shown r) (hop_shown r) t (what_moved w n b e x.what x.hop s t r h.file m) new;
}
  where
    e : Entry
    e = name_at w n

    links_room : b.0 < length x.linktos
    links_room = let q = h.room.0 in omega arith

    main : main_shown r ≡ (slot_at s.disk b.0 (name_at w n)).main
    main = look_main (name_at w n) b s t r sound there z m

    here : BrickShown (name_at w n) (sight_with w.bricks x b r) b.0 t
    here = record {
      there = (let count = m.disk.count in omega arith);
      linkto = set_there x.linktos b.0 (linkto_in w.bricks (main_shown r)) No links_room
          ∙ (ap (linkto_in w.bricks) main
          ∙ (ap (λ (i : ℕ). linkto_in i (slot_at s.disk b.0 (name_at w n)).main) (sym (ap length m.weights ∙ scope.bricks))
          ∙ ap (λ (v : Slot). linkto_in (length t.history.weights) v.main) (sym (slot_moved s t _ r m tt (name_at w n) b.0))));
    }

    elsewhere : (i : ℕ) → i ≢ b.0 → BrickShown (name_at w n) x i t → BrickShown (name_at w n) (sight_with w.bricks x b r) i t
    elsewhere i ne p = record { there = p.there; linkto = set_other x.linktos b.0 i _ No links_room ne ∙ p.linkto }

    new : (f : Gfid) (over : Option BrickNo) → main_shown r ≡ Some (AFile f over) → FileShown (name_at w n) b.0 f (hop_shown r) t
    new f over q =
        let at_name = sym main ∙ q in
        file_shown_moved w n b (name_at w n) b.0 f (hop_shown r) s t r (record {
          there = there;
          link = is_link f over (slot_at s.disk b.0 (name_at w n)) at_name;
          moved = look_hop (name_at w n) b f over s t r sound there z at_name m;
        }) m

-- of a name that is a directory there is room for more alone
pub room_of :
    (e : Entry) (full : What) (x : Sight) (limit : ℕ) (s : Scene) → ShownOf full e x limit s
    → HasRoom x
room_of e Absent x limit s h = h.room
room_of e (Dir g) x limit s h = h
room_of e (File f b links) x limit s h = h.room

shown_of_moved :
    (w : Scoped) (n : ℕ) (b : BrickNo) (e : Entry) (full : What) (x : Sight) (limit : ℕ)
    (s t : Scene) (r : Reply)
    → ShownOf full e x limit s → Guarantee s (look_ask w n b) r t → ShownOf full e x limit t
shown_of_moved w n b e Absent x limit s t r h m = shown_moved w n b e x limit s t r h m
shown_of_moved w n b e (Dir g) x limit s t r h m = h
shown_of_moved w n b e (File f c links) x limit s t r h m = shown_moved w n b e x limit s t r h m

shown_of_more :
    (w : Scoped) (n : ℕ) (b : BrickNo) (full : What) (x : Sight) (s t : Scene) (r : Reply) → Sound s
    → HasScope w s → b.0 < s.disk.count → b.0 < 32 → fault_of r ≡ None
    → ShownOf full (name_at w n) x b.0 s → Guarantee s (look_ask w n b) r t
    → ShownOf full (name_at w n) (sight_with w.bricks x b r) (b.0 + 1) t
shown_of_more w n b Absent x s t r sound scope there few z h m = shown_more w n b x s t r sound scope there few z h m
shown_of_more w n b (Dir g) x s t r sound scope there few z h m = room_more w b x r few h
shown_of_more w n b (File f c links) x s t r sound scope there few z h m = shown_more w n b x s t r sound scope there few z h m

-- a name stands as it did
seen_moved :
    (w : Scoped) (n : ℕ) (b : BrickNo) (e : Entry) (full : What) (s t : Scene) (r : Reply)
    → StandsSeen e full s → Guarantee s (look_ask w n b) r t → StandsSeen e full t
seen_moved w n b e Absent s t r h m = stands_moved s t _ r e Bare tt h m
seen_moved w n b e (Dir g) s t r h m = (h.0, stands_moved s t _ r e (Folder g h.0) tt h.1 m)
seen_moved w n b e (File f c links) s t r h m = stands_moved s t _ r e (Plain c.0 f) tt h m

looked_moved :
    (w : Scoped) (n : ℕ) (b : BrickNo) (e : Entry) (x : Looked) (s t : Scene) (r : Reply)
    → IsLooked w.bricks e x s → Guarantee s (look_ask w n b) r t → IsLooked w.bricks e x t
looked_moved w n b e x s t r h m = record {
  stands = seen_moved w n b e x.sight.what s t r h.stands m;
  read = reads_moved s t _ r tt e.0 x.sight h.read m;
  whole = h.whole;
  shown = shown_of_moved w n b e x.sight.what x.sight w.bricks s t r h.shown m;
  saw = saw_at_moved e x s t _ r tt h.saw m;
}

-- ---- what is known after a look that was answered

pub record AfterLook (w : Scoped) (looks : List Looked) (n : ℕ) (b : BrickNo) (x : Sight) (s t : Scene) : Type 0 where
  pub fresh : IsFresh w t
  pub there : b.0 < t.disk.count
  pub holds : AllHeld w (length w.keys) t
  pub saw : Saw (name_at w n) (b.0 + 1) x.what t
  pub read : Reads (name_at w n).0 x t
  pub whole : length x.layout ≡ b.0 + 1
  pub shown : ShownOf saw.full (name_at w n) x (b.0 + 1) t
  pub looked : AllLooked w n looks t

pub after_look :
    (w : Scoped) (looks : List Looked) (n : ℕ) (b : BrickNo) (x : Sight) (r : Reply) (at : ℕ)
    (s t : Scene)
    → fault_of r ≡ None → shows_gone (name_at w n).0 b r ≡ false
    → Served (section_stage (Looking w looks n b x)) r at s t
    → AfterLook w looks n b (sight_with w.bricks x b r) s t
after_look w looks n b x r at s t z going v =
    let h = v.is_at.knows in
    let m = v.moved in
    let e = name_at w n in
    let bricks = bricks_are w s v.before h.fresh.scope in
    let few = v.before.kept.few in
    let within = h.within in
    let whole = h.whole in
    let count = m.disk.count in
    let there : b.0 < s.disk.count = omega arith in
    let main = look_main e b s t r v.before there z m in
    let more = saw_more s e b (main_shown r) (links_shown r) h.saw.full x.what there main h.saw.stands h.saw.shows in
    let room = room_of e h.saw.full x b.0 s h.shown in
    record {
      fresh = fresh_moved w s t _ r tt h.fresh m;
      there = omega arith;
      holds = held_moved w (length w.keys) n b s t r h.holds m;
      saw = record {
        full = more.next;
        stands = seen_moved w n b e more.next s t r more.stands m;
        shows = more.shows;
      };
      read = reads_more w.bricks e.0 x b r t h.whole room.1 (omega arith) (reads_moved s t _ r tt e.0 x h.read m) (look_read e b s t r v.before there z going m);
      shown = more.as_was (sight_with w.bricks x b r) (b.0 + 1) t (shown_of_more w n b h.saw.full x s t r v.before h.fresh.scope there (omega arith) z h.shown m);
      whole = longer_length x.layout (range_shown r) (omega arith) ∙ ap (λ (i : ℕ). i + 1) whole;
      looked = λ j l. looked_moved w n b (name_at w j) (looked_at looks j) s t r (h.looked j l) m;
    }

-- ---- the next brick

pub next_brick :
    (w : Scoped) (looks : List Looked) (n : ℕ) (b : BrickNo) (x : Sight) (r : Reply) (at : ℕ)
    (s t : Scene)
    → fault_of r ≡ None → shows_gone (name_at w n).0 b r ≡ false → nat_lt 1 (w.bricks - b.0) ≡ true
    → Served (section_stage (Looking w looks n b x)) r at s t
    → GoesOn (section_stage (Looking w looks n b x))
    (section_stage (Looking w looks n (record { 0 = b.0 + 1 }) (sight_with w.bricks x b r))) r
    t
next_brick w looks n b x r at s t z going e v =
    let h = v.is_at.knows in
    let a = after_look w looks n b x r at s t z going v in
    let more : 1 < w.bricks - b.0 = grind (arith, nat_tests, e) in
    let left = left_now w.bricks n (length w.names) h.name in
    record {
      claims = claims_more (section_stage (Looking w looks n b x)) r at s t _ v (λ i key q. q);
      knows = record {
        order = h.order;
        fresh = a.fresh;
        name = h.name;
        within = omega arith;
        room = h.room;
        holds = a.holds;
        saw = a.saw;
        read = a.read;
        whole = a.whole;
        shown = a.shown;
        looked = a.looked;
      };
      nearer = λ u. (λ q. omega arith, omega arith);
    }

-- ---- the last brick of a name

-- where a directory was read on all bricks, its home has its copy, so that it is one of the tree
pub read_whole :
    (g : Gfid) (x : Sight) (t : Scene) → Sound t → home g < length x.layout → Reads g x t
    → t.history.tree.dirs g ≡ true
read_whole g x t sound l h = (sound.kept.things.dirs g).homed ∙ by (mark_at x.copies (home g)) (h (home g) l)
  where
    by : (mark : Bool) → ReadAt g mark (slice_index_or x.layout (home g) None) (home g) t → is_some (dir_at t.disk (home g) g) ≡ true
    by true k = k.there
    by false k = absurd (k.away refl)

-- the name was seen on all bricks
seen_whole :
    (w : Scoped) (looks : List Looked) (n : ℕ) (b : BrickNo) (x : Sight) (at : ℕ) (s t : Scene)
    → Sound t → at ≡ t.history.size → b.0 + 1 ≡ w.bricks → n < length w.names
    → AfterLook w looks n b x s t
    → IsLooked w.bricks (name_at w n) (record { sight = x; at = at }) t
seen_whole w looks n b x at s t sound line last l a =
    let bricks = bricks_are w t sound a.fresh.scope in
    let all : b.0 + 1 ≡ t.disk.count = omega arith in
    let e = name_at w n in
    let full = saw_all t e a.saw.full x.what a.saw.stands (subst (λ (i : ℕ). ShownBelow i a.saw.full x.what) all a.saw.shows) in
    let stands : StandsSeen e x.what t = subst (λ (y : What). StandsSeen e y t) (sym full) a.saw.stands in
    let begun = sound.begun in
    let now : t.history.past at ≡ t.history.tree = ap t.history.past line ∙ sound.kept.point in
    let directory = read_whole e.0 x t sound (let k = a.fresh.scope.homes n l in let whole = a.whole in omega arith) a.read in
    let placed = sound.kept.tree.placed e.0 directory in
    record {
      stands = stands;
      read = a.read;
      whole = a.whole ∙ last;
      shown = subst (λ (y : What). ShownOf y e x w.bricks t) (sym full) (subst (λ (i : ℕ). ShownOf a.saw.full e x i t) last a.shown);
      saw = record {
        after = omega arith;
        before = omega arith;
        directory = ap (λ (p : Tree). p.dirs e.0) now ∙ directory;
        node = ap (λ (p : Tree). p.names e) now ∙ node_there t e x.what stands;
        descent = placed.descent;
        was = ap (λ (p : Tree). p.descents e.0) now ∙ placed.is;
        is = placed.is;
      };
    }

looked_more :
    (w : Scoped) (looks : List Looked) (n : ℕ) (x : Looked) (t : Scene) → n < length looks
    → AllLooked w n looks t → IsLooked w.bricks (name_at w n) x t
    → AllLooked w (suc n) (with_looked looks n x) t
looked_more w looks n x t l h k j m = elim (nat_cases j n) [
  | inl q ↦ subst (λ (i : ℕ). IsLooked w.bricks (name_at w i) (looked_at (with_looked looks n x) i) t) (sym q)
      (subst (λ (y : Looked). IsLooked w.bricks (name_at w n) y t) (sym (set_there looks n x _ l)) k)
  | inr ne ↦ subst (λ (y : Looked). IsLooked w.bricks (name_at w j) y t) (sym (set_other looks n j x _ l ne)) (h j (below_or j n m ne))
]

last_brick : (b n : ℕ) → b < n → nat_lt 1 (n - b) ≡ false → b + 1 ≡ n
last_brick b n l e = grind (arith, nat_tests, l, e)

-- what is known after the last look at a name
pub record AfterName (w : Scoped) (looks : List Looked) (n : ℕ) (t : Scene) : Type 0 where
  pub fresh : IsFresh w t
  pub holds : AllHeld w (length w.keys) t
  pub room : length looks ≡ length w.names
  pub looked : AllLooked w (suc n) looks t

after_name :
    (w : Scoped) (looks : List Looked) (n : ℕ) (b : BrickNo) (x : Sight) (r : Reply) (at : ℕ)
    (s t : Scene)
    → fault_of r ≡ None → shows_gone (name_at w n).0 b r ≡ false → nat_lt 1 (w.bricks - b.0) ≡ false
    → Served (section_stage (Looking w looks n b x)) r at s t
    → AfterName w (with_looked looks n (record { sight = sight_with w.bricks x b r; at = at })) n t
after_name w looks n b x r at s t z going e v =
    let h = v.is_at.knows in
    let a = after_look w looks n b x r at s t z going v in
    let name = h.name in
    let room = h.room in
    let place : n < length looks = omega arith in
    let new : Looked = record { sight = sight_with w.bricks x b r; at = at } in
    record {
      fresh = a.fresh;
      holds = a.holds;
      room = set_length looks n new place ∙ h.room;
      looked = looked_more w looks n new t place a.looked (seen_whole w looks n b (sight_with w.bricks x b r) at s t v.after v.line (last_brick b.0 w.bricks h.within e) h.name a);
    }

pub next_name :
    (w : Scoped) (looks : List Looked) (n next : ℕ) (b : BrickNo) (x : Sight) (r : Reply) (at : ℕ)
    (s t : Scene)
    → next ≡ suc n → fault_of r ≡ None → shows_gone (name_at w n).0 b r ≡ false
    → nat_lt 1 (w.bricks - b.0) ≡ false → nat_lt 1 (length w.names - n) ≡ true
    → Served (section_stage (Looking w looks n b x)) r at s t
    → GoesOn (section_stage (Looking w looks n b x))
    (section_stage
    (Looking w
    (with_looked looks n (record { sight = sight_with w.bricks x b r; at = at }))
    next (record { 0 = 0 }) no_sight))
    r t
next_name w looks n next b x r at s t i z going e k v =
    let h = v.is_at.knows in
    let a = after_name w looks n b x r at s t z going e v in
    let more : 1 < length w.names - n = grind (arith, nat_tests, k) in
    let within = h.within in
    let bricks = bricks_are w t v.after a.fresh.scope in
    let some = v.after.kept.some_brick in
    let full = full_of t (name_at w next) v.after in
    let left = left_now w.bricks n (length w.names) h.name in
    let same : looks_left w.bricks (length w.names - next) ≡ looks_left w.bricks (length w.names - suc n) = ap (λ (m : ℕ). looks_left w.bricks (length w.names - m)) i in
    record {
      claims = claims_more (section_stage (Looking w looks n b x)) r at s t _ v (λ c key q. q);
      knows = record {
        order = h.order;
        fresh = a.fresh;
        name = omega arith;
        within = omega arith;
        room = a.room;
        holds = a.holds;
        saw = record { full = full.0; stands = full.1; shows = none_below full.0 };
        read = λ c q. absurd (omega arith);
        whole = refl;
        shown = nothing_of full.0 (name_at w next) t;
        looked = subst (λ (m : ℕ). AllLooked w m (with_looked looks n (record { sight = sight_with w.bricks x b r; at = at })) t) (sym i) a.looked;
      };
      nearer = λ u. (λ q. omega arith, omega arith);
    }

-- the last name
pub looked_last :
    (w : Scoped) (looks : List Looked) (n : ℕ) (b : BrickNo) (x : Sight) (r : Reply) (at : ℕ)
    (s t : Scene)
    → fault_of r ≡ None → shows_gone (name_at w n).0 b r ≡ false → nat_lt 1 (w.bricks - b.0) ≡ false
    → nat_lt 1 (length w.names - n) ≡ false
    → Served (section_stage (Looking w looks n b x)) r at s t
    → EndsIn (section_stage (Looking w looks n b x))
    (opened_ending
    (Holding
    (record {
      scope = w;
      looks =
          with_looked looks n
          (record { sight = sight_with w.bricks x b r; at = at });
    })))
    t
looked_last w looks n b x r at s t z going e k v =
    let h = v.is_at.knows in
    let name = h.name in
    let a = after_name w looks n b x r at s t z going e v in
    let last : suc n ≡ length w.names = grind (arith, nat_tests, k, name) in
    record {
      claims = claims_more (section_stage (Looking w looks n b x)) r at s t _ v (λ c key q. q);
      earned = record {
        order = h.order;
        fresh = a.fresh;
        room = a.room;
        holds = a.holds;
        looked = subst (λ (m : ℕ). AllLooked w m (with_looked looks n (record { sight = sight_with w.bricks x b r; at = at })) t) last a.looked;
      };
    }

-- ---- a look that ends it

pub look_stopped :
    (w : Scoped) (looks : List Looked) (n : ℕ) (b : BrickNo) (x : Sight) (e : Errno) (r : Reply)
    (at : ℕ) (s t : Scene)
    → fault_of r ≡ Some e → Served (section_stage (Looking w looks n b x)) r at s t
    → GoesOn (section_stage (Looking w looks n b x))
    (section_stage (Unlocking w (last_lock w) (Stopped e))) r t
look_stopped w looks n b x e r at s t z v =
    let h = v.is_at.knows in
    let some = h.order.some in
    let within = h.within in
    let left = left_now w.bricks n (length w.names) h.name in
    record {
      claims = claims_more (section_stage (Looking w looks n b x)) r at s t _ v (λ c key q. q);
      knows = record {
        order = h.order;
        scope = scope_moved w s t _ r h.fresh.scope v.moved;
        within = omega arith;
        earned = fault_earned s t _ r e z v.moved;
      };
      nearer = λ u. (λ q. omega arith, omega arith);
    }

pub both : (a b : Bool) → (a && b) ≡ true → (a ≡ true) × (b ≡ true)
both true b h = (refl, h)
both false b h = absurd (let z : false ≡ true = h in cc)

no_record :
    (o : Option DirRecord) (c : Contents) (e : Entry) → is_nodir (look_reply o c e) ≡ true
    → o ≡ None
no_record None c e h = refl
no_record (Some x) c e h = absurd (let z : false ≡ true = h in cc)

-- where the home of a directory has no record of it, it is no directory of the tree
pub home_gone :
    (g : Gfid) (at : ℕ) (s t : Scene) (a : Ask) (r : Reply) → IsQuiet a.request
    → s.mine.deeds ≡ None → Sound s → Sound t → at ≡ t.history.size
    → dir_at s.disk (home g) g ≡ None → Guarantee s a r t → WasGone g at t
home_gone g at s t a r quiet fresh before after line none m =
    let homed : s.history.tree.dirs g ≡ is_some (dir_at s.disk (home g) g) = (before.kept.things.dirs g).homed in
    let begun = after.begun in
    record {
      deeds = deeds_quiet s t a r quiet m ∙ fresh;
      after = omega arith;
      before = omega arith;
      gone = ap (λ (i : ℕ). (t.history.past i).dirs g) line
          ∙ (ap (λ (p : Tree). p.dirs g) (after.kept.point ∙ tree_quiet s t a r quiet m)
          ∙ (homed ∙ ap is_some none));
    }

was_gone :
    (b : BrickNo) (at : ℕ) (r : Reply) (s t : Scene) (w : Scoped) (n : ℕ) → s.mine.deeds ≡ None
    → Sound s → Sound t → at ≡ t.history.size → fault_of r ≡ None
    → shows_gone (name_at w n).0 b r ≡ true → Guarantee s (look_ask w n b) r t
    → WasGone (name_at w n).0 at t
was_gone b at r s t w n fresh before after line z k m =
    let e = name_at w n in
    let q = both (is_nodir r) (nat_eq b.0 (home e.0)) k in
    let none : dir_at s.disk b.0 e.0 ≡ None = no_record (dir_at s.disk b.0 e.0) (s.disk.brick b.0) e (ap is_nodir (sym (row_reply s t _ r m z)) ∙ q.0) in
    let at_home : dir_at s.disk (home e.0) e.0 ≡ None = ap (λ (i : ℕ). dir_at s.disk i e.0) (sym ((exact_nat b.0 (home e.0)).0 q.1)) ∙ none in
    home_gone e.0 at s t _ r tt fresh before after line at_home m

pub look_gone :
    (w : Scoped) (looks : List Looked) (n : ℕ) (b : BrickNo) (x : Sight) (r : Reply) (at : ℕ)
    (s t : Scene)
    → fault_of r ≡ None → shows_gone (name_at w n).0 b r ≡ true
    → Served (section_stage (Looking w looks n b x)) r at s t
    → GoesOn (section_stage (Looking w looks n b x))
    (section_stage (Unlocking w (last_lock w) (Gone (name_at w n).0 at))) r t
look_gone w looks n b x r at s t z k v =
    let h = v.is_at.knows in
    let some = h.order.some in
    let within = h.within in
    let left = left_now w.bricks n (length w.names) h.name in
    record {
      claims = claims_more (section_stage (Looking w looks n b x)) r at s t _ v (λ c key q. q);
      knows = record {
        order = h.order;
        scope = scope_moved w s t _ r h.fresh.scope v.moved;
        within = omega arith;
        earned = ((n, h.name, refl), was_gone b at r s t w n h.fresh.deeds v.before v.after v.line z k v.moved);
      };
      nearer = λ u. (λ q. omega arith, omega arith);
    }

-- a look is always answered
pub look_again :
    (w : Scoped) (looks : List Looked) (n : ℕ) (b : BrickNo) (x : Sight) (r : Reply) (at : ℕ)
    (s t : Scene)
    → fault_of r ≡ None → is_shown r ≡ false
    → Served (section_stage (Looking w looks n b x)) r at s t
    → GoesOn (section_stage (Looking w looks n b x)) (section_stage (Looking w looks n b x)) r t
look_again w looks n b x r at s t z k v = absurd (let q : true ≡ false = sym (look_answered (name_at w n) b s t r z v.moved) ∙ k in cc)
