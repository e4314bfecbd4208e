-- What looks show of names and of layouts.
use Rattle.std.proofs.Common.{◌≡◌, ◌≢◌, ◌⊎◌, ◌<◌, ◌≤◌, ◌+◌, ℕ, Bool, true, false, refl, sym, ◌∙◌, ap, subst, arith, inl, inr}
use Rattle.std.specs.Prelude.{Option, Some, None, is_some}
use Rattle.std.specs.Option.{option_map}
use Rattle.dht_types.specs.Gfid.{Entry, home, root}
use Rattle.dht_types.specs.History.{is_carried}
use Rattle.dht_types.specs.declared.errors.Errno.{Errno}
use Rattle.dht_types.specs.declared.identifiers.Gfid.{Gfid}
use Rattle.dht_types.specs.declared.identifiers.BrickNo.{BrickNo}
use Rattle.dht_types.specs.declared.stored.DirRecord.{DirRecord}
use Rattle.dht_types.specs.declared.stored.Main.{Main}
use Rattle.dht_types.specs.declared.stored.Main.TheVariants.{Dir, File, Linkto}
use Rattle.dht_types.specs.declared.stored.Slot.{Slot}
use Rattle.dht_types.specs.declared.stored.Standby.{Standby}
use Rattle.dht_brick.specs.Contents.{Contents, bare, slot}
use Rattle.dht_brick.specs.Kinds.{reply_kind}
use Rattle.dht_brick.specs.Looks.{look_of, file_hop, file_look, file_or, readied}
use Rattle.dht_brick.specs.Outcome.{Outcome, Do, in_dir, within, reply_in}
use Rattle.dht_brick.specs.Rows.{with_store}
use Rattle.dht_brick.specs.declared.replies.Given.TheVariants as given
use Rattle.dht_brick.specs.declared.requests.NameRequest.TheVariants.{Look}
use Rattle.dht_brick.specs.declared.requests.Request.TheVariants.{OnNames}
use Rattle.dht_brick.specs.declared.replies.Reply.{Reply}
use Rattle.dht_brick.specs.declared.replies.Reply.TheVariants.{Ok as Carried, Refused as Declined, Wait, Down, Failed, NoMemory}
use Rattle.dht_section.proofs.EarlyLaws.{IsPlainShape, here_at, here_off, nat_cases, shape_plain}
use Rattle.dht_section.proofs.PlaceLaws.{below_or}
use Rattle.dht_section.proofs.SceneLaws.{row_reply}
use Rattle.dht_section.specs.Disk.{file_of_main, file_in, slot_at, dir_at, name_at, range_of}
use Rattle.dht_section.specs.Moves.{Guarantee}
use Rattle.dht_section.specs.Looks.{main_shown, hop_shown, hop_in, what_by}
use Rattle.dht_section.specs.Replies.{fault_of, is_shown, file_shown, range_shown}
use Rattle.dht_section.specs.Scene.{Scene, Sound, NameStands}
use Rattle.dht_section.specs.Shapes.{NameShape, Bare, Folder, Plain, Marked, Contested, Standing, Copied, Committed, core_at, main_at, here, when_on}
use Rattle.dht_section.specs.Views.{visible}
use Rattle.dht_section.specs.Section.{ShownBelow, ShownOf, StandsSeen, node_seen}
use Rattle.dht_section.specs.declared.looks.Sight.{Sight}
use Rattle.dht_section.specs.declared.looks.What.{What}
use Rattle.dht_section.specs.declared.looks.What.TheVariants.{Absent, Dir as Directory, File as AFile}
use Rattle.dht_section.specs.declared.machine.Ask.{Ask}

-- ---- how a name stands

-- in a sound scene a name stands nowhere, as a directory, or as a file on one brick
seen_by :
    (s : Scene) (e : Entry) (h : NameShape) → IsPlainShape h → NameStands s e h
    → (full : What) × StandsSeen e full s
seen_by s e Bare p k = (Absent, k)
seen_by s e (Folder g on) p k = (Directory g, (on, k))
seen_by s e (Plain b f) p k = (AFile f (record { 0 = b }) 0, k)
seen_by s e (Marked b f x) p k = absurd p
seen_by s e (Contested b f x g) p k = absurd p
seen_by s e (Standing x g) p k = absurd p
seen_by s e (Copied b f t) p k = absurd p
seen_by s e (Committed t f) p k = absurd p

pub full_of : (s : Scene) (e : Entry) → Sound s → (full : What) × StandsSeen e full s
full_of s e sound =
    let n = sound.kept.things.names e in
    seen_by s e n.0 (shape_plain s.disk e (s.history.tree.names e) n.0 n.1 (sound.early.plain e)) n.1

-- no brick was looked at, and none showed it
pub none_below : (full : What) → ShownBelow 0 full Absent
none_below Absent = refl
none_below (Directory g) = inr (refl, omega arith)
none_below (AFile f b links) = inr (omega arith, refl)

-- ---- what a look shows

-- every brick has a record of the root, and the root is in the tree
pub root_there :
    (s : Scene) (g : Gfid) (b : ℕ) → Sound s → g ≡ root → b < s.disk.count
    → is_some (dir_at s.disk b g) ≡ true
root_there s g b sound e l = ap (λ x. is_some (dir_at s.disk b x)) e ∙ sound.kept.things.roots b l

pub root_in_tree : (s : Scene) (g : Gfid) → Sound s → g ≡ root → s.history.tree.dirs g ≡ true
root_in_tree s g sound e = ap s.history.tree.dirs e ∙ ((sound.kept.things.dirs root).homed ∙ root_there s root 0 sound refl sound.kept.some_brick)

pub in_dir_there :
    {A : Type 0} (o : Option DirRecord) (outcome : Outcome A) → is_some o ≡ true
    → in_dir o (λ x. outcome) ≡ outcome
in_dir_there None outcome h = absurd (let e : false ≡ true = h in cc)
in_dir_there (Some x) outcome h = refl

-- a slot is bare or not
bare_or : (p : Slot) → (p ≡ bare) ⊎ (p ≢ bare)
bare_or p = by p.main p.standby refl refl
  where
    by : (m : Option Main) (y : Option Standby) → p.main ≡ m → p.standby ≡ y → (p ≡ bare) ⊎ (p ≢ bare)
    by None None e k = inl (λ i. record { main = e i; standby = k i })
    by None (Some x) e k = inr (λ h. let z : None ≡ Some x = ap (λ (q : Slot). q.standby) (sym h) ∙ k in cc)
    by (Some x) y e k = inr (λ h. let z : None ≡ Some x = ap (λ (q : Slot). q.main) (sym h) ∙ e in cc)

-- a name of a directory of which a brick has no record is bare there
pub unhoused :
    (s : Scene) (e : Entry) (b : ℕ) → Sound s → b < s.disk.count → dir_at s.disk b e.0 ≡ None
    → slot_at s.disk b e ≡ bare
unhoused s e b sound l none = elim (bare_or (slot_at s.disk b e)) [
  | inl q ↦ q
  | inr ne ↦ absurd (let z : false ≡ true = ap is_some (sym none) ∙ sound.kept.things.housed e b l ne in cc)
]

-- a look at a name shows the slot, and the range of the directory
abbrev pub look_reply : Option DirRecord → Contents → Entry → Reply
look_reply o c e = reply_in (within (with_store c) (in_dir o (λ x. Do (given.Look (look_of c.store e x)) c.store)))

-- a look shows the main part of the slot, which is
-- bare where the brick has no record of the directory
main_there :
    (o : Option DirRecord) (c : Contents) (e : Entry) → (o ≡ None → slot c.store e ≡ bare)
    → main_shown (look_reply o c e) ≡ (slot c.store e).main
main_there None c e h = ap (λ (p : Slot). p.main) (sym (h refl))
main_there (Some x) c e h = refl

-- and the hop of the file that it is
hop_there :
    (o : Option DirRecord) (c : Contents) (e : Entry) (f : Gfid) (over : Option BrickNo)
    → (o ≡ None → slot c.store e ≡ bare) → (slot c.store e).main ≡ Some (File f over)
    → hop_shown (look_reply o c e) ≡ file_hop c.store f
hop_there None c e f over h q = absurd (let z : None ≡ Some (File f over) = ap (λ (p : Slot). p.main) (sym (h refl)) ∙ q in cc)
hop_there (Some x) c e f over h q = ap (λ (m : Option Main). hop_in (option_map (file_look c.store) (file_or m (readied (slot c.store e).standby)))) q

pub carried_there :
    (o : Option DirRecord) (c : Contents) (e : Entry)
    → is_carried (reply_kind (look_reply o c e)) ≡ is_some o
carried_there None c e = refl
carried_there (Some x) c e = refl

pub range_there :
    (o : Option DirRecord) (c : Contents) (e : Entry) → range_shown (look_reply o c e) ≡ range_of o
range_there None c e = refl
range_there (Some x) c e = refl

-- what a look at a name on a brick shows
abbrev pub asks_look : Entry → BrickNo → Ask
asks_look e b = record { brick = b; request = OnNames (Look e.0 e.1) }

pub look_main :
    (e : Entry) (b : BrickNo) (s t : Scene) (r : Reply) → Sound s → b.0 < s.disk.count
    → fault_of r ≡ None → Guarantee s (asks_look e b) r t
    → main_shown r ≡ (slot_at s.disk b.0 e).main
look_main e b s t r sound l z m = ap main_shown (row_reply s t _ r m z) ∙ main_there (dir_at s.disk b.0 e.0) (s.disk.brick b.0) e (unhoused s e b.0 sound l)

shown_main : (r : Reply) → file_shown r ≡ file_of_main (main_shown r)
shown_main (Carried (given.Look look)) = refl
shown_main (Carried x) = refl
shown_main r = refl

pub look_shown :
    (e : Entry) (b : BrickNo) (s t : Scene) (r : Reply) → Sound s → b.0 < s.disk.count
    → fault_of r ≡ None → Guarantee s (asks_look e b) r t → file_shown r ≡ name_at s.disk b.0 e
look_shown e b s t r sound l z m = shown_main r ∙ ap file_of_main (look_main e b s t r sound l z m)

pub look_hop :
    (e : Entry) (b : BrickNo) (f : Gfid) (over : Option BrickNo) (s t : Scene) (r : Reply) → Sound s
    → b.0 < s.disk.count → fault_of r ≡ None → (slot_at s.disk b.0 e).main ≡ Some (File f over)
    → Guarantee s (asks_look e b) r t → hop_shown r ≡ file_hop (s.disk.brick b.0).store f
look_hop e b f over s t r sound l z q m = ap hop_shown (row_reply s t _ r m z) ∙ hop_there (dir_at s.disk b.0 e.0) (s.disk.brick b.0) e f over (unhoused s e b.0 sound l) q

-- ---- what was seen, with one brick more

core_file : (m : Option Main) → file_of_main (visible m) ≡ file_of_main m
core_file None = refl
core_file (Some (Dir g)) = refl
core_file (Some (File f over)) = refl
core_file (Some (Linkto value)) = refl

-- the file at a name, by how it stands
pub name_stands_at :
    (s : Scene) (e : Entry) (h : NameShape) (b : ℕ) → b < s.disk.count → NameStands s e h
    → name_at s.disk b e ≡ file_in (core_at h b)
name_stands_at s e h b l k = sym (core_file (slot_at s.disk b e).main) ∙ ap file_in (k.has b l)

-- the main part that a brick has at a name, as a look shows it: a linkto shows nothing of it
visible_at :
    (s : Scene) (e : Entry) (h : NameShape) (b : ℕ) → b < s.disk.count → NameStands s e h
    → visible (slot_at s.disk b e).main ≡ main_at h b
visible_at s e h b l k = ap (λ (p : Slot). p.main) (k.has b l)

-- what is seen after a look at one more brick, by what of its main part is no linkto
what_visible :
    (x : What) (b : BrickNo) (m : Option Main) (links : ℕ)
    → what_by x b m links ≡ what_by x b (visible m) links
what_visible x b None links = refl
what_visible x b (Some (Dir g)) links = refl
what_visible x b (Some (File f over)) links = refl
what_visible x b (Some (Linkto value)) links = refl

-- what stands at the name and what was shown of it, with one brick more
pub record SawMore (e : Entry) (limit : ℕ) (full shown : What) (s : Scene) : Type 0 where
  pub next : What
  pub stands : StandsSeen e next s
  pub shows : ShownBelow limit next shown
  pub as_was : (x : Sight) (i : ℕ) (t : Scene) → ShownOf full e x i t → ShownOf next e x i t

nothing_more :
    (x : What) (b : BrickNo) (m : Option Main) (links : ℕ) → visible m ≡ None
    → what_by x b m links ≡ x
nothing_more x b m links e = what_visible x b m links ∙ ap (λ (y : Option Main). what_by x b y links) e

-- a directory's brick shows it, if it has a copy of it, as its home does
folder_shows :
    (e : Entry) (g : Gfid) (on : ℕ → Bool) (x : What) (b : BrickNo) (m : Option Main) (links : ℕ)
    (v : Bool)
    → on b.0 ≡ v → on (home g) ≡ true → visible m ≡ when_on v (Dir g)
    → ShownBelow b.0 (Directory g) x → ShownBelow (b.0 + 1) (Directory g) (what_by x b m links)
folder_shows e g on x b m links true q home_on k h = inl (what_visible x b m links ∙ ap (λ (y : Option Main). what_by x b y links) k)
folder_shows e g on x b m links false q home_on k h = subst (ShownBelow (b.0 + 1) (Directory g)) (sym (nothing_more x b m links k)) (elim h [
  | inl y ↦ inl y
  | inr y ↦ inr (y.0, above y.1)
])
  where
    above : b.0 ≤ home g → b.0 + 1 ≤ home g
    above l = elim (nat_cases b.0 (home g)) [
      | inl same ↦ absurd (let z : false ≡ true = sym q ∙ (ap on same ∙ home_on) in cc)
      | inr ne ↦ (let z = below_or b.0 (home g) (omega arith) ne in omega arith)
    ]

file_elsewhere :
    (x : What) (b c : BrickNo) (f : Gfid) (m : Option Main) (seen links : ℕ) → b.0 ≢ c.0
    → visible m ≡ None → ShownBelow b.0 (AFile f c seen) x
    → ShownBelow (b.0 + 1) (AFile f c seen) (what_by x b m links)
file_elsewhere x b c f m seen links ne k h = subst (ShownBelow (b.0 + 1) (AFile f c seen)) (sym (nothing_more x b m links k)) (elim h [
  | inl y ↦ inl (let l = y.0 in omega arith, y.1)
  | inr y ↦ inr (let l = y.0 in let z = below_or b.0 c.0 (omega arith) ne in omega arith, y.1)
])

pub saw_more :
    (s : Scene) (e : Entry) (b : BrickNo) (m : Option Main) (links : ℕ) (full x : What)
    → b.0 < s.disk.count → m ≡ (slot_at s.disk b.0 e).main → StandsSeen e full s
    → ShownBelow b.0 full x → SawMore e (b.0 + 1) full (what_by x b m links) s
saw_more s e b m links Absent x l q k h = record {
  next = Absent;
  stands = k;
  shows = nothing_more x b m links (ap visible q ∙ visible_at s e Bare b.0 l k) ∙ h;
  as_was = λ y i t z. z;
}
saw_more s e b m links (Directory g) x l q k h = record {
  next = Directory g;
  stands = k;
  shows = folder_shows e g k.0 x b m links (k.0 b.0) refl k.1.fits.1 (ap visible q ∙ visible_at s e (Folder g k.0) b.0 l k.1) h;
  as_was = λ y i t z. z;
}
saw_more s e b m links (AFile f c seen) x l q k h = elim (nat_cases b.0 c.0) [
  | inl same ↦ record {
    next = AFile f b links;
    stands = subst (λ (i : ℕ). NameStands s e (Plain i f)) (sym same) k;
    shows = inl (omega arith, what_visible x b m links ∙ ap (λ (y : Option Main). what_by x b y links) (at_brick ∙ (ap (here (Some (File f None)) c.0) same ∙ here_at (Some (File f None)) c.0)));
    as_was = λ y i t z. z;
  }
  | inr ne ↦ record {
    next = AFile f c seen;
    stands = k;
    shows = file_elsewhere x b c f m seen links ne (at_brick ∙ here_off (Some (File f None)) c.0 b.0 ne) h;
    as_was = λ y i t z. z;
  }
]
  where
    at_brick : visible m ≡ here (Some (File f None)) c.0 b.0
    at_brick = ap visible q ∙ visible_at s e (Plain c.0 f) b.0 l k

-- a look is always answered
answered_there :
    (o : Option DirRecord) (c : Contents) (e : Entry) → is_shown (look_reply o c e) ≡ true
answered_there None c e = refl
answered_there (Some x) c e = refl

pub look_answered :
    (e : Entry) (b : BrickNo) (s t : Scene) (r : Reply) → fault_of r ≡ None
    → Guarantee s (asks_look e b) r t → is_shown r ≡ true
look_answered e b s t r z m = ap is_shown (row_reply s t _ r m z) ∙ answered_there (dir_at s.disk b.0 e.0) (s.disk.brick b.0) e

-- a reply that is a fault shows nothing
pub not_shown : (r : Reply) (e : Errno) → fault_of r ≡ Some e → is_shown r ≡ false
not_shown (Carried given) e z = absurd (let k : None ≡ Some e = z in cc)
not_shown (Declined why) e z = absurd (let k : None ≡ Some e = z in cc)
not_shown (Wait holder) e z = absurd (let k : None ≡ Some e = z in cc)
not_shown Down e z = refl
not_shown Failed e z = refl
not_shown NoMemory e z = refl

-- what all bricks showed is what stands at the name
pub saw_all :
    (s : Scene) (e : Entry) (full shown : What) → StandsSeen e full s
    → ShownBelow s.disk.count full shown → shown ≡ full
saw_all s e Absent shown k h = h
saw_all s e (Directory g) shown k h = elim h [
  | inl q ↦ q
  | inr q ↦ absurd (let l = k.1.fits.0 in let z = q.1 in omega arith)
]
saw_all s e (AFile f b links) shown k h = elim h [
  | inl q ↦ q.1
  | inr q ↦ absurd (let l = k.fits in let z = q.0 in omega arith)
]

-- and what the tree has at it
pub node_there :
    (s : Scene) (e : Entry) (what : What) → StandsSeen e what s
    → s.history.tree.names e ≡ node_seen what
node_there s e Absent k = k.node
node_there s e (Directory g) k = k.1.node
node_there s e (AFile f b links) k = k.node
