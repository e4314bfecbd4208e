-- The steps of a sweep.
use Rattle.std.proofs.Common.{◌≡◌, ◌≢◌, ◌<◌, ◌≤◌, ◌+◌, ◌-◌, ◌∙◌, ℕ, Bool, true, false, refl, sym, ap, subst, arith, List, [], inl, inr}
use Rattle.std.specs.Prelude.{zero, suc, nat_lt, ◌||◌, if◌then◌else◌, Option, Some, None, MatchOption, is_some}
use Rattle.std.proofs.lemmas.Bool.Decides.{nat_tests}
use Rattle.dht_types.specs.Gfid.{Entry, anchor}
use Rattle.dht_types.specs.History.{is_carried}
use Rattle.dht_types.specs.Tree.{Tree}
use Rattle.dht_types.specs.declared.calls.TreeStep.{TreeStep}
use Rattle.dht_types.specs.declared.errors.Errno.{Errno}
use Rattle.dht_types.specs.declared.identifiers.BrickNo.{BrickNo}
use Rattle.dht_types.specs.declared.identifiers.Gfid.{Gfid}
use Rattle.dht_types.specs.declared.locks.Key.TheVariants.{Dir as DirKey, Entry as NameKey}
use Rattle.dht_types.specs.declared.stored.Main.{Main}
use Rattle.dht_types.specs.declared.stored.Main.TheVariants.{Dir, File, Linkto as ALinkto}
use Rattle.dht_types.specs.declared.stored.Slot.{Slot}
use Rattle.dht_brick.specs.Contents.{bare}
use Rattle.dht_brick.specs.Kinds.{reply_kind}
use Rattle.dht_brick.specs.OpenRows.{is_sealed}
use Rattle.dht_brick.specs.Outcome.{Do}
use Rattle.dht_brick.specs.Parts.{is_copy, is_file, is_linkto, is_standlink, with_slot, without_main}
use Rattle.dht_brick.specs.Rows.{with_store}
use Rattle.dht_brick.specs.declared.replies.Given.TheVariants as given
use Rattle.dht_brick.specs.declared.replies.Reply.{Reply}
use Rattle.dht_brick.specs.declared.replies.Reply.TheVariants as reply
use Rattle.dht_brick.specs.declared.requests.NameRequest.TheVariants.{DropLinkto}
use Rattle.dht_section.proofs.ClaimLaws.{claims_more}
use Rattle.dht_section.proofs.EarlyLaws.{nat_cases}
use Rattle.dht_section.proofs.ReadLaws.{reads_kept}
use Rattle.dht_section.proofs.SceneLaws.{fault_earned, lock_moved}
use Rattle.dht_section.proofs.SlotLaws.{TakesSlot, entry_cases, slot_carried, slot_reply, slot_taken}
use Rattle.dht_section.proofs.UnlockingSteps.{scope_moved}
use Rattle.dht_section.specs.Again.{IsUnanswered}
use Rattle.dht_section.specs.Claims.{Lock}
use Rattle.dht_section.specs.Disk.{dir_at, slot_at}
use Rattle.dht_section.specs.Location.{entry_at}
use Rattle.dht_section.specs.Looks.{has_linkto, linkto_at}
use Rattle.dht_section.specs.Moves.{Guarantee, deeds_by, outcome_of, step_of, tree_by}
use Rattle.dht_section.specs.Parts.{EndsByFault, part_ending}
use Rattle.dht_section.specs.Rely.{IsNameless, ByBytes, ByRecord, BySeal, IsFileUsed}
use Rattle.dht_section.specs.Replies.{fault_of}
use Rattle.dht_section.specs.Scene.{Scene, Sound, HoldsName, NameStands}
use Rattle.dht_section.specs.Section.{found_shape, held_looked}
use Rattle.dht_section.specs.Shapes.{NameShape, NameFits}
use Rattle.dht_section.specs.Stages.{Served, GoesOn, EndsIn, Moves, MatchTurn, MayClaimNext}
use Rattle.dht_section.specs.Sweep.{IsKept, IsLeft, IsSwept, Sweeps, drop_ask, first_from, first_sweep, is_left, linkto_there, lone_sweep, lone_swept, next_linkto, seen_linktos, sweep_after, sweep_at, sweep_next, sweep_stage, sweep_unless, swept_to}
use Rattle.dht_section.specs.Views.{core, links_to, view_of, visible}
use Rattle.dht_section.specs.Want.{key_at, dir_of}
use Rattle.dht_section.specs.declared.location.Location.{Location}
use Rattle.dht_section.specs.declared.looks.Linkto.{Linkto}
use Rattle.dht_section.specs.declared.looks.Looked.{Looked}
use Rattle.dht_section.specs.declared.looks.Place.{Place}
use Rattle.dht_section.specs.declared.machine.Turn.{Turn}
use Rattle.dht_section.specs.declared.machine.Turn.TheVariants.{Go, Done}
use Rattle.dht_section.specs.declared.section.Held.{Held}
use Rattle.dht_section.specs.declared.sweep.Sweep.{Sweep}

-- ---- what a drop leaves

-- a linkto was dropped on a brick, and nothing else changed
abbrev pub Drops : Scene → Scene → ℕ → Entry → Type 0
Drops s t b e = TakesSlot s t b e (without_main (slot_at s.disk b e))

-- a brick that has a linkto has its directory
linkto_bare :
    (s : Scene) (b : ℕ) (e : Entry) → linkto_there s.disk b e ≡ true → slot_at s.disk b e ≢ bare
linkto_bare s b e h k = (let z : true ≡ false = sym h ∙ ap (λ (p : Slot). is_linkto p.main) k in cc)

linkto_housed :
    (s : Scene) (b : ℕ) (e : Entry) → Sound s → b < s.disk.count → linkto_there s.disk b e ≡ true
    → is_some (dir_at s.disk b e.0) ≡ true
linkto_housed s b e sound there h = sound.kept.things.housed e b there (linkto_bare s b e h)

-- a linkto that is there is dropped
module _ (l : Location) (b : BrickNo) (s t : Scene) (r : Reply) (sound : Sound s) (there : b.0 < s.disk.count) (has : linkto_there s.disk b.0 (entry_at l) ≡ true) (z : fault_of r ≡ None) (m : Guarantee s (drop_ask l b) r t) where
  drop_is : outcome_of s (drop_ask l b) ≡ Do given.Nothing (with_store (s.disk.brick b.0) (with_slot (s.disk.brick b.0).store (entry_at l) (without_main (slot_at s.disk b.0 (entry_at l)))))
  drop_is = slot_carried (DropLinkto l.directory l.name) (dir_at s.disk b.0 l.directory) (linkto_there s.disk b.0 (entry_at l)) (s.disk.brick b.0) (entry_at l) (without_main (slot_at s.disk b.0 (entry_at l))) (linkto_housed s b.0 (entry_at l) sound there has) has

  drop_reply : r ≡ reply.Ok given.Nothing
  drop_reply = slot_reply s t (drop_ask l b) r given.Nothing (entry_at l) (without_main (slot_at s.disk b.0 (entry_at l))) m drop_is z

  drop_leaves : Drops s t b.0 (entry_at l)
  drop_leaves = slot_taken s t (drop_ask l b) r given.Nothing (entry_at l) (without_main (slot_at s.disk b.0 (entry_at l))) m drop_is z

-- it is none of the tree's steps
no_step : (l : Location) (b : BrickNo) (r : Reply) → step_of b.0 (drop_ask l b).request r ≡ None
no_step l b (reply.Ok g) = refl
no_step l b r = refl

pub drop_deeds :
    (l : Location) (b : BrickNo) (s t : Scene) (r : Reply) → Guarantee s (drop_ask l b) r t
    → t.mine.deeds ≡ s.mine.deeds
drop_deeds l b s t r m = m.mine.deeds_are ∙ ap (λ (o : Option TreeStep). deeds_by s t.history.size o) (no_step l b m.real)

drop_tree :
    (l : Location) (b : BrickNo) (s t : Scene) (r : Reply) → Guarantee s (drop_ask l b) r t
    → t.history.tree ≡ s.history.tree
drop_tree l b s t r m = m.tree ∙ ap (λ (o : Option TreeStep). tree_by o s.history.tree) (no_step l b m.real)

drop_holds :
    (l : Location) (b : BrickNo) (s t : Scene) (r : Reply) (e : Entry)
    → Guarantee s (drop_ask l b) r t → HoldsName s e → HoldsName t e
drop_holds l b s t r e m h = record {
  name = lock_moved s t (drop_ask l b) r m e.0 (NameKey e.0 e.1) tt ∙ h.name;
  dir = ap is_some (lock_moved s t (drop_ask l b) r m e.0 (DirKey e.0) tt) ∙ h.dir;
}

-- the slot of a name is as it was, or its linkto is gone
linkto_visible : (m : Option Main) → is_linkto m ≡ true → None ≡ visible m
linkto_visible None e = refl
linkto_visible (Some (Dir g)) e = absurd (let k : false ≡ true = e in cc)
linkto_visible (Some (File f over)) e = absurd (let k : false ≡ true = e in cc)
linkto_visible (Some (ALinkto v)) e = refl

linkto_links : (f : Gfid) (m : Option Main) → is_linkto m ≡ true → false ≡ is_file f m
linkto_links f None e = refl
linkto_links f (Some (Dir g)) e = refl
linkto_links f (Some (File g over)) e = absurd (let k : false ≡ true = e in cc)
linkto_links f (Some (ALinkto v)) e = refl

-- what of a slot does not see a linkto stays
slot_fact :
    {X : Type 0} (f : Slot → X) (s t : Scene) (b : ℕ) (e : Entry) → Drops s t b e
    → f (without_main (slot_at s.disk b e)) ≡ f (slot_at s.disk b e) → (i : ℕ) (x : Entry)
    → f (slot_at t.disk i x) ≡ f (slot_at s.disk i x)
slot_fact f s t b e d same i x = elim (entry_cases x e) [
  | inl q ↦ elim (nat_cases i b) [
    | inl k ↦ ap (λ (j : ℕ). f (slot_at t.disk j x)) k ∙ (ap (λ (y : Entry). f (slot_at t.disk b y)) q ∙ (ap f d.here ∙ (same ∙ (ap (λ (y : Entry). f (slot_at s.disk b y)) (sym q) ∙ ap (λ (j : ℕ). f (slot_at s.disk j x)) (sym k)))))
    | inr ne ↦ ap f (d.off i x ne)
  ]
  | inr ne ↦ ap f (d.others i x ne)
]

drop_core :
    (s t : Scene) (b : ℕ) (e : Entry) → linkto_there s.disk b e ≡ true → Drops s t b e
    → (i : ℕ) (x : Entry) → core (slot_at t.disk i x) ≡ core (slot_at s.disk i x)
drop_core s t b e has d = slot_fact core s t b e d (ap (λ (m : Option Main). let p : Slot = record { main = m; standby = (slot_at s.disk b e).standby } in p) (linkto_visible (slot_at s.disk b e).main has))

-- each name stands as it did
drop_stands :
    (l : Location) (b : BrickNo) (s t : Scene) (r : Reply) (e : Entry) (h : NameShape)
    → linkto_there s.disk b.0 (entry_at l) ≡ true → Drops s t b.0 (entry_at l)
    → Guarantee s (drop_ask l b) r t → NameStands s e h → NameStands t e h
drop_stands l b s t r e h has d m k = record {
  fits = subst (λ (n : ℕ). NameFits n h) (sym m.disk.count) k.fits;
  has = λ i w. drop_core s t b.0 (entry_at l) has d i e ∙ k.has i (let c = m.disk.count in omega arith);
  node = ap (λ (x : Tree). x.names e) (drop_tree l b s t r m) ∙ k.node;
}

-- a file without names has none still
drop_used :
    (l : Location) (b : BrickNo) (s t : Scene) (r : Reply) (f : Gfid) → Drops s t b.0 (entry_at l)
    → Guarantee s (drop_ask l b) r t → IsFileUsed s.disk s.history.tree f
    → IsFileUsed t.disk t.history.tree f
drop_used l b s t r f d m (ByBytes h) = ByBytes (λ q. h (ap (λ (x : Tree). x.bytes f) (sym (drop_tree l b s t r m)) ∙ q))
drop_used l b s t r f d m (ByRecord i rec w e) = ByRecord i rec (let c = m.disk.count in omega arith) (d.files i f ∙ e)
drop_used l b s t r f d m (BySeal h) = BySeal (sealed_still ∙ h)
  where
    sealed_still : (view_of t.disk f).sealed ≡ (view_of s.disk f).sealed
    sealed_still = ap (λ (n : ℕ). is_sealed (t.disk.brick (anchor f n)).opens f) m.disk.count ∙ ap (λ o. is_sealed o f) (d.opens (anchor f s.disk.count))

drop_nameless :
    (l : Location) (b : BrickNo) (s t : Scene) (r : Reply) (f : Gfid)
    → linkto_there s.disk b.0 (entry_at l) ≡ true → Drops s t b.0 (entry_at l)
    → Guarantee s (drop_ask l b) r t → IsNameless s.disk s.history.tree f
    → IsNameless t.disk t.history.tree f
drop_nameless l b s t r f has d m h =
    let c = m.disk.count in
    record {
      used = drop_used l b s t r f d m h.used;
      links = λ i x w. slot_fact (links_to f) s t b.0 (entry_at l) d (ap (λ (v : Bool). v || is_standlink f (slot_at s.disk b.0 (entry_at l)).standby) (linkto_links f (slot_at s.disk b.0 (entry_at l)).main has)) i x ∙ h.links i x (omega arith);
      copies = λ i x w. slot_fact (λ (p : Slot). is_copy f p.standby) s t b.0 (entry_at l) d refl i x ∙ h.copies i x (omega arith);
    }

-- what a section that is held knows beside linktos
drop_kept :
    (l : Location) (b : BrickNo) (h : Held) (s t : Scene) (r : Reply) → Drops s t b.0 (entry_at l)
    → Guarantee s (drop_ask l b) r t → IsKept l h s → IsKept l h t
drop_kept l b h s t r d m k = record {
  order = k.order;
  fresh = record { scope = scope_moved h.scope s t _ r k.fresh.scope m; deeds = drop_deeds l b s t r m ∙ k.fresh.deeds };
  scope = k.scope;
  holds = λ j w. lock_moved s t (drop_ask l b) r m (dir_of (key_at h.scope j)) (key_at h.scope j) tt ∙ k.holds j w;
  read = reads_kept s t l.directory (λ i. d.dirs i l.directory) m.disk.count m.weights (held_looked h (entry_at l)).sight k.read;
  whole = k.whole;
}

-- ---- which linktos are left

-- a brick that has the first linkto that was seen from a limit on
pub record IsFirst (linktos : List Linkto) (limit bricks : ℕ) (b : BrickNo) : Type 0 where
  pub above : limit ≤ b.0
  pub below : b.0 < bricks
  pub seen : has_linkto (linkto_at linktos b.0) ≡ true
  pub none : (i : ℕ) → limit ≤ i → i < b.0 → has_linkto (linkto_at linktos i) ≡ false

-- and none has one where there is none
abbrev pub NoneFrom : List Linkto → ℕ → ℕ → Type 0
NoneFrom linktos limit bricks = (i : ℕ) → limit ≤ i → i < bricks → has_linkto (linkto_at linktos i) ≡ false

abbrev pub FirstFrom : List Linkto → ℕ → ℕ → Option BrickNo → Type 0
FirstFrom linktos limit bricks o = MatchOption o (NoneFrom linktos limit bricks) (λ b. IsFirst linktos limit bricks b)

next_up : (b i : ℕ) → b ≤ i → i ≢ b → suc b ≤ i
next_up b i l ne = by (nat_lt b i) refl
  where
    by : (v : Bool) → nat_lt b i ≡ v → suc b ≤ i
    by true e = grind (arith, nat_tests, e)
    by false e = absurd (ne (grind (arith, nat_tests, e, l)))

first_more :
    (linktos : List Linkto) (b bricks : ℕ) (o : Option BrickNo)
    → has_linkto (linkto_at linktos b) ≡ false → FirstFrom linktos (suc b) bricks o
    → FirstFrom linktos b bricks o
first_more linktos b bricks None e h = λ i l k. elim (nat_cases i b) [
  | inl q ↦ ap (λ (j : ℕ). has_linkto (linkto_at linktos j)) q ∙ e
  | inr ne ↦ h i (next_up b i l ne) k
]
first_more linktos b bricks (Some x) e h = record {
  above = let l = h.above in omega arith;
  below = h.below;
  seen = h.seen;
  none = λ i l k. elim (nat_cases i b) [
    | inl q ↦ ap (λ (j : ℕ). has_linkto (linkto_at linktos j)) q ∙ e
    | inr ne ↦ h.none i (next_up b i l ne) k
  ];
}

first_found :
    (linktos : List Linkto) (b more bricks : ℕ) → b + more ≡ bricks
    → FirstFrom linktos b bricks (first_from linktos b more)
unfolding first_from
first_found linktos b zero bricks e = λ i l k. absurd (omega arith)
first_found linktos b (suc more) bricks e = by (has_linkto (linkto_at linktos b)) refl (first_found linktos (suc b) more bricks (omega arith))
  where
    by : (v : Bool) → has_linkto (linkto_at linktos b) ≡ v → FirstFrom linktos (suc b) bricks (first_from linktos (suc b) more) → FirstFrom linktos b bricks (if v then Some (record { 0 = b }) else first_from linktos (suc b) more)
    by true q h = record { above = omega arith; below = omega arith; seen = q; none = λ i l k. absurd (omega arith) }
    by false q h = first_more linktos b bricks (first_from linktos (suc b) more) q h

next_found :
    (bricks : ℕ) (linktos : List Linkto) (limit : ℕ) → limit ≤ bricks
    → FirstFrom linktos limit bricks (next_linkto bricks linktos limit)
next_found bricks linktos limit l = first_found linktos limit (bricks - limit) bricks (omega arith)

-- the next linkto is on this brick, or above it, or there is none
pub first_here :
    (bricks : ℕ) (linktos : List Linkto) (b : ℕ) → b < bricks
    → has_linkto (linkto_at linktos b) ≡ true
    → next_linkto bricks linktos b ≡ Some (record { 0 = b })
unfolding first_from
first_here bricks linktos b l e =
    let n : bricks - b ≡ suc (bricks - (b + 1)) = omega arith in
    ap (first_from linktos b) n ∙ ap (λ (v : Bool). if v then Some (record { 0 = b }) else first_from linktos (suc b) (bricks - (b + 1))) e

pub first_above :
    (bricks : ℕ) (linktos : List Linkto) (b : ℕ) → b < bricks
    → has_linkto (linkto_at linktos b) ≡ false
    → next_linkto bricks linktos b ≡ next_linkto bricks linktos (b + 1)
unfolding first_from
first_above bricks linktos b l e =
    let n : bricks - b ≡ suc (bricks - (b + 1)) = omega arith in
    let q : suc b ≡ b + 1 = omega arith in
    ap (first_from linktos b) n
    ∙ (ap (λ (v : Bool). if v then Some (record { 0 = b }) else first_from linktos (suc b) (bricks - (b + 1))) e
    ∙ ap (λ (i : ℕ). first_from linktos i (bricks - (b + 1))) q)

pub first_past :
    (bricks : ℕ) (linktos : List Linkto) (b : ℕ) → bricks ≤ b → next_linkto bricks linktos b ≡ None
unfolding first_from
first_past bricks linktos b l = (let n : bricks - b ≡ 0 = omega arith in ap (first_from linktos b) n)

-- what is left from a limit on is left from the first linkto on, and nothing is where there is none
left_same :
    (linktos : List Linkto) (limit bricks i : ℕ) (b : BrickNo) → IsFirst linktos limit bricks b
    → i < bricks → is_left linktos limit i ≡ is_left linktos b.0 i
left_same linktos limit bricks i b h l = by (nat_lt i limit) (nat_lt i b.0) refl refl
  where
    by : (v w : Bool) → nat_lt i limit ≡ v → nat_lt i b.0 ≡ w → (if v then false else has_linkto (linkto_at linktos i)) ≡ (if w then false else has_linkto (linkto_at linktos i))
    by true true e k = refl
    by true false e k = absurd (let a = h.above in grind (arith, nat_tests, e, k, a))
    by false true e k = h.none i (grind (arith, nat_tests, e)) (grind (arith, nat_tests, k))
    by false false e k = refl

left_none :
    (linktos : List Linkto) (limit bricks i : ℕ) → NoneFrom linktos limit bricks → i < bricks
    → is_left linktos limit i ≡ false
left_none linktos limit bricks i h l = by (nat_lt i limit) refl
  where
    by : (v : Bool) → nat_lt i limit ≡ v → (if v then false else has_linkto (linkto_at linktos i)) ≡ false
    by true e = refl
    by false e = h i (grind (arith, nat_tests, e)) l

-- a sweep goes on from the first linkto that is left, or the name is swept
abbrev pub GoesFrom : Location → Option Place → List Linkto → Option BrickNo → Scene → Type 0
GoesFrom l found linktos o s = MatchOption o (IsSwept l found s) (λ b. Sweeps found (record { location = l; linktos = linktos; brick = b }) s)

goes_by :
    (l : Location) (found : Option Place) (linktos : List Linkto) (limit : ℕ) (o : Option BrickNo)
    (s : Scene)
    → IsLeft l found linktos limit s → FirstFrom linktos limit l.bricks o
    → GoesFrom l found linktos o s
goes_by l found linktos limit None s h f = record {
  bricks = h.bricks;
  holds = h.holds;
  stands = h.stands;
  none = λ b k. let c = h.bricks in let w : b < l.bricks = omega arith in h.left b w ∙ left_none linktos limit l.bricks b f w;
}
goes_by l found linktos limit (Some x) s h f = record {
  name = record { bricks = h.bricks; holds = h.holds; stands = h.stands; left = λ b w. h.left b w ∙ left_same linktos limit l.bricks b x f w };
  there = f.below;
  seen = f.seen;
}

-- ---- its beginning

pub sweep_begins :
    (l : Location) (h : Held) (found : Option Place) (s : Scene)
    → IsLeft l found (held_looked h (entry_at l)).sight.linktos 0 s
    → MatchOption (first_sweep l h) (IsSwept l found s) (λ x. Sweeps found x s)
sweep_begins l h found s k = by (next_linkto l.bricks linktos 0) (goes_by l found linktos 0 (next_linkto l.bricks linktos 0) s k (next_found l.bricks linktos 0 (omega arith)))
  where
    linktos : List Linkto
    linktos = (held_looked h (entry_at l)).sight.linktos

    by : (o : Option BrickNo) → GoesFrom l found linktos o s → MatchOption (sweep_at l linktos o) (IsSwept l found s) (λ x. Sweeps found x s)
    by None w = w
    by (Some b) w = w

-- by what was seen and the first brick with a linkto
pub first_knows :
    (l : Location) (h : Held) (x : Looked) (o : Option BrickNo) (found : Option Place) (s : Scene)
    → x ≡ held_looked h (entry_at l) → o ≡ next_linkto l.bricks x.sight.linktos 0
    → IsLeft l found (seen_linktos l h) 0 s
    → MatchOption (sweep_at l x.sight.linktos o) (IsSwept l found s) (λ y. Sweeps found y s)
first_knows l h x o found s e k w =
    subst (λ (b : Option BrickNo). MatchOption (sweep_at l x.sight.linktos b) (IsSwept l found s) (λ y. Sweeps found y s)) (sym k)
    (subst (λ (z : Looked). MatchOption (sweep_at l z.sight.linktos (next_linkto l.bricks z.sight.linktos 0)) (IsSwept l found s) (λ y. Sweeps found y s)) (sym e) (sweep_begins l h found s w))

-- ---- its steps

-- the linkto on its brick is there
sweeps_there :
    (found : Option Place) (x : Sweep) (s : Scene) → Sweeps found x s
    → linkto_there s.disk x.brick.0 (entry_at x.location) ≡ true
sweeps_there found x s h = h.name.left x.brick.0 h.there ∙ (ap (λ (v : Bool). if v then false else has_linkto (linkto_at x.linktos x.brick.0)) (let e : nat_lt x.brick.0 x.brick.0 ≡ false = grind (arith, nat_tests) in e) ∙ h.seen)

sweeps_within :
    (found : Option Place) (x : Sweep) (s : Scene) → Sweeps found x s → x.brick.0 < s.disk.count
sweeps_within found x s h = let l = h.there in let c = h.name.bricks in omega arith

-- what a sweep's request leaves
pub sweep_drops :
    (found : Option Place) (x : Sweep) (s t : Scene) (r : Reply) → Sound s → Sweeps found x s
    → fault_of r ≡ None → Guarantee s (drop_ask x.location x.brick) r t
    → Drops s t x.brick.0 (entry_at x.location)
sweep_drops found x s t r sound h z m = drop_leaves x.location x.brick s t r sound (sweeps_within found x s h) (sweeps_there found x s h) z m

pub sweep_carried :
    (found : Option Place) (x : Sweep) (s t : Scene) (r : Reply) → Sound s → Sweeps found x s
    → fault_of r ≡ None → Guarantee s (drop_ask x.location x.brick) r t
    → is_carried (reply_kind r) ≡ true
sweep_carried found x s t r sound h z m = ap (λ (y : Reply). is_carried (reply_kind y)) (drop_reply x.location x.brick s t r sound (sweeps_within found x s h) (sweeps_there found x s h) z m)

pub sweep_nameless :
    (found : Option Place) (x : Sweep) (s t : Scene) (r : Reply) (f : Gfid) → Sound s
    → Sweeps found x s → fault_of r ≡ None → Guarantee s (drop_ask x.location x.brick) r t
    → IsNameless s.disk s.history.tree f → IsNameless t.disk t.history.tree f
sweep_nameless found x s t r f sound h z m k = drop_nameless x.location x.brick s t r f (sweeps_there found x s h) (sweep_drops found x s t r sound h z m) m k

pub sweep_kept :
    (found : Option Place) (x : Sweep) (h : Held) (s t : Scene) (r : Reply) → Sound s
    → Sweeps found x s → fault_of r ≡ None → Guarantee s (drop_ask x.location x.brick) r t
    → IsKept x.location h s → IsKept x.location h t
sweep_kept found x h s t r sound w z m k = drop_kept x.location x.brick h s t r (sweep_drops found x s t r sound w z m) m k

-- the linktos above its brick are left
left_after :
    (found : Option Place) (x : Sweep) (s t : Scene) (r : Reply) → Sound s → Sweeps found x s
    → fault_of r ≡ None → Guarantee s (drop_ask x.location x.brick) r t
    → IsLeft x.location found x.linktos (x.brick.0 + 1) t
left_after found x s t r sound h z m = record {
  bricks = m.disk.count ∙ h.name.bricks;
  holds = drop_holds x.location x.brick s t r (entry_at x.location) m h.name.holds;
  stands = drop_stands x.location x.brick s t r (entry_at x.location) (found_shape found) has d m h.name.stands;
  left = λ b l. elim (nat_cases b x.brick.0) [
    | inl q ↦ ap (λ (i : ℕ). linkto_there t.disk i (entry_at x.location)) q
        ∙ (ap (λ (p : Slot). is_linkto p.main) d.here
        ∙ sym (ap (λ (v : Bool). if v then false else has_linkto (linkto_at x.linktos b)) (let e : nat_lt b (x.brick.0 + 1) ≡ true = grind (arith, nat_tests, q) in e)))
    | inr ne ↦ ap (λ (p : Slot). is_linkto p.main) (d.off b (entry_at x.location) ne) ∙ (h.name.left b l ∙ ap (λ (v : Bool). if v then false else has_linkto (linkto_at x.linktos b)) (same_test b ne))
  ];
}
  where
    has : linkto_there s.disk x.brick.0 (entry_at x.location) ≡ true
    has = sweeps_there found x s h

    d : Drops s t x.brick.0 (entry_at x.location)
    d = sweep_drops found x s t r sound h z m

    same_test : (b : ℕ) → b ≢ x.brick.0 → nat_lt b x.brick.0 ≡ nat_lt b (x.brick.0 + 1)
    same_test b ne = by (nat_lt b x.brick.0) (nat_lt b (x.brick.0 + 1)) refl refl
      where
        by : (v w : Bool) → nat_lt b x.brick.0 ≡ v → nat_lt b (x.brick.0 + 1) ≡ w → v ≡ w
        by true true e k = refl
        by true false e k = absurd (grind (arith, nat_tests, e, k))
        by false true e k = absurd (ne (grind (arith, nat_tests, e, k)))
        by false false e k = refl

module _ (locks : List Lock) (found : Option Place) where
  abbrev Went : Sweep → Reply → Scene → Turn Sweep (Option Errno) → Type 0
  Went x r t turn = MatchTurn turn (λ n. GoesOn (sweep_stage locks found x) (sweep_stage locks found n) r t) (λ d. EndsIn (sweep_stage locks found x) (part_ending locks (IsSwept x.location found) d) t)

  claims_kept : (x : Sweep) (r : Reply) (at : ℕ) (s t : Scene) → Served (sweep_stage locks found x) r at s t → MayClaimNext t (sweep_stage locks found x).claims (sweep_stage locks found x).claims
  claims_kept x r at s t v = claims_more (sweep_stage locks found x) r at s t locks v (λ b key q. q)

  next_steps : (x : Sweep) (r : Reply) (at : ℕ) (s t : Scene) (o : Option BrickNo) → FirstFrom x.linktos (x.brick.0 + 1) x.location.bricks o → GoesFrom x.location found x.linktos o t → Served (sweep_stage locks found x) r at s t → Went x r t (swept_to x o)
  next_steps x r at s t None f h v = record { claims = claims_kept x r at s t v; earned = h }
  next_steps x r at s t (Some b) f h v =
      let above = f.above in
      let below = f.below in
      record { claims = claims_kept x r at s t v; knows = h; nearer = λ u. (λ w. omega arith, omega arith) }

  dropped_steps : (x : Sweep) (r : Reply) (at : ℕ) (s t : Scene) → fault_of r ≡ None → Served (sweep_stage locks found x) r at s t → Went x r t (swept_to x (sweep_next x))
  dropped_steps x r at s t z v =
      let l = v.is_at.knows.there in
      let f = next_found x.location.bricks x.linktos (x.brick.0 + 1) (omega arith) in
      next_steps x r at s t (sweep_next x) f (goes_by x.location found x.linktos (x.brick.0 + 1) (sweep_next x) t (left_after found x s t r v.before v.is_at.knows z v.moved) f) v

  carried_steps : (x : Sweep) (r : Reply) (at : ℕ) (s t : Scene) (b : Bool) → is_carried (reply_kind r) ≡ b → fault_of r ≡ None → Served (sweep_stage locks found x) r at s t → Went x r t (if b then swept_to x (sweep_next x) else Go x)
  carried_steps x r at s t true e z v = dropped_steps x r at s t z v
  carried_steps x r at s t false e z v = absurd (let q : true ≡ false = sym (sweep_carried found x s t r v.before v.is_at.knows z v.moved) ∙ e in cc)

  unless_steps : (x : Sweep) (r : Reply) (at : ℕ) (s t : Scene) (o : Option Errno) → fault_of r ≡ o → Served (sweep_stage locks found x) r at s t → Went x r t (sweep_unless o x r)
  unless_steps x r at s t None z v = carried_steps x r at s t (is_carried (reply_kind r)) refl z v
  unless_steps x r at s t (Some e) z v = record { claims = claims_kept x r at s t v; earned = fault_earned s t _ r e z v.moved }

  pub sweep_moves : (x : Sweep) (r : Reply) (at : ℕ) → Moves (sweep_stage locks found) (part_ending locks (IsSwept x.location found)) x r at (sweep_after x r)
  sweep_moves x r at s t v = unless_steps x r at s t (fault_of r) refl v

-- under no locks it says less of its end
lone_turn :
    (x : Sweep) (r : Reply) (t : Scene) (turn : Turn Sweep (Option Errno)) → Went [] None x r t turn
    → MatchTurn turn (λ n. GoesOn (lone_sweep x) (lone_sweep n) r t)
    (λ d. EndsIn (lone_sweep x) (lone_swept d) t)
lone_turn x r t (Go n) h = h
lone_turn x r t (Done None) h = record { claims = h.claims; earned = tt }
lone_turn x r t (Done (Some e)) h = record { claims = h.claims; earned = h.earned }

pub lone_moves :
    (x : Sweep) (r : Reply) (at : ℕ) → Moves lone_sweep lone_swept x r at (sweep_after x r)
lone_moves x r at s t v = lone_turn x r t (sweep_after x r) (sweep_moves [] None x r at s t v)

-- ---- what it notes, and what it sends again

next_noted :
    (x : Sweep) (r : Reply) (o : Option BrickNo) → fault_of r ≡ None → EndsByFault r (swept_to x o)
next_noted x r None z = sym z
next_noted x r (Some b) z = z

carried_noted :
    (x : Sweep) (r : Reply) (b : Bool) → fault_of r ≡ None
    → EndsByFault r (if b then swept_to x (sweep_next x) else Go x)
carried_noted x r true z = next_noted x r (sweep_next x) z
carried_noted x r false z = z

noted_by :
    (x : Sweep) (r : Reply) (o : Option Errno) → fault_of r ≡ o → EndsByFault r (sweep_unless o x r)
noted_by x r None z = carried_noted x r (is_carried (reply_kind r)) z
noted_by x r (Some e) z = sym z

pub sweep_noted : (x : Sweep) (r : Reply) → EndsByFault r (sweep_after x r)
sweep_noted x r = noted_by x r (fault_of r) refl

pub sweep_again :
    (locks : List Lock) (found : Option Place) (x : Sweep) (r : Reply)
    → IsUnanswered (sweep_stage locks found x) r → sweep_after x r ≡ Go x
sweep_again locks found x r h = ap (λ (o : Option Errno). sweep_unless o x r) h.0 ∙ ap (λ (b : Bool). if b then swept_to x (sweep_next x) else Go x) h.1

-- it stays a sweep of the same name
abbrev pub KeepsLocation : Sweep → Turn Sweep (Option Errno) → Type 0
KeepsLocation x turn = MatchTurn turn (λ n. n.location ≡ x.location) (λ d. Unit {0})

next_same : (x : Sweep) (o : Option BrickNo) → KeepsLocation x (swept_to x o)
next_same x None = tt
next_same x (Some b) = refl

carried_same :
    (x : Sweep) (b : Bool) → KeepsLocation x (if b then swept_to x (sweep_next x) else Go x)
carried_same x true = next_same x (sweep_next x)
carried_same x false = refl

same_by : (x : Sweep) (r : Reply) (o : Option Errno) → KeepsLocation x (sweep_unless o x r)
same_by x r None = carried_same x (is_carried (reply_kind r))
same_by x r (Some e) = tt

pub sweep_same : (x : Sweep) (r : Reply) → KeepsLocation x (sweep_after x r)
sweep_same x r = same_by x r (fault_of r)
