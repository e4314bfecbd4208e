-- What the requests make of the bricks by which one directory is healed.
use Rattle.std.proofs.Common.{◌≡◌, ◌≢◌, ◌<◌, ℕ, Bool, true, false, List, refl, sym, ◌∙◌, ap, arith}
use Rattle.std.specs.Prelude.{is_some, is_none, nat_eq, ◌&&◌, slice_index_or, Option, Some, None}
use Rattle.std.specs.FinMap.{get, insert}
use Rattle.dht_brick.proofs.LocalityLaws.{insert_dir}
use Rattle.dht_brick.proofs.MapLemmas.{get-insert_here}
use Rattle.dht_brick.proofs.TableLemmas.{gfid_total}
use Rattle.dht_brick.specs.Contents.{Contents, Dirs, dir, slot}
use Rattle.dht_brick.specs.Looks.{info_of}
use Rattle.dht_brick.specs.NameRows.{on_slot, when}
use Rattle.dht_brick.specs.Outcome.{Outcome, Do, in_dir, left_by, reply_in, within}
use Rattle.dht_brick.specs.Parts.{is_dir, is_free, is_vacant, slot_shown, with_dir, with_main}
use Rattle.dht_brick.specs.Rows.{with_store}
use Rattle.dht_brick.specs.declared.replies.Given.TheVariants as given
use Rattle.dht_brick.specs.declared.replies.Reply.{Reply}
use Rattle.dht_brick.specs.declared.replies.Reply.TheVariants.{Ok as Carried, Refused as Declined, Wait, Down, Failed, NoMemory}
use Rattle.dht_brick.specs.declared.replies.Why.TheVariants as why
use Rattle.dht_brick.specs.declared.requests.NameRequest.TheVariants.{MakeDir}
use Rattle.dht_brick.specs.declared.requests.Request.{Request}
use Rattle.dht_brick.specs.declared.requests.Request.TheVariants.{OnNames}
use Rattle.dht_types.proofs.PutLaws.{exact_gfid, exact_nat, put_keeps, put_other}
use Rattle.dht_types.specs.Gfid.{Entry}
use Rattle.dht_types.specs.declared.calls.TreeStep.{TreeStep}
use Rattle.dht_types.specs.declared.identifiers.BrickNo.{BrickNo}
use Rattle.dht_types.specs.declared.identifiers.Gfid.{Gfid}
use Rattle.dht_types.specs.declared.stored.DirRecord.{DirRecord}
use Rattle.dht_types.specs.declared.stored.Main.{Main}
use Rattle.dht_types.specs.declared.stored.Main.TheVariants as main
use Rattle.dht_types.specs.declared.stored.Slot.{Slot}
use Rattle.dht_types.specs.declared.stored.Standby.{Standby}
use Rattle.dht_section.proofs.SceneLaws.{new_is, row_moved, row_reply}
use Rattle.dht_section.specs.Disk.{dir_at, slot_at}
use Rattle.dht_section.specs.Moves.{Guarantee, deeds_by, request_step, step_of, tree_by}
use Rattle.dht_section.specs.Replies.{fault_of}
use Rattle.dht_section.specs.Scene.{NameStands, Scene, Sound}
use Rattle.dht_section.specs.Shapes.{Folder, when_on}
use Rattle.dht_section.specs.Views.{visible}
use Rattle.dht_section.specs.declared.machine.Ask.{Ask}
use Rattle.dht_heal.specs.HealOne.{IsCopied, info_ask, layout_ask}
use Rattle.dht_heal.specs.declared.heal_one.Target.{Target}
use Rattle.dht_xattr.specs.Plan.{value_of}

-- ---- the tree and the call

no_step_by : (b : ℕ) (q : Request) (r : Reply) → request_step b q ≡ None → step_of b q r ≡ None
no_step_by b q (Carried given) e = e
no_step_by b q (Declined why) e = refl
no_step_by b q (Wait holder) e = refl
no_step_by b q Down e = refl
no_step_by b q Failed e = refl
no_step_by b q NoMemory e = refl

-- a request that stands for no step leaves the tree, and what the call has done
pub stepless_tree :
    (s t : Scene) (a : Ask) (r : Reply) → request_step a.brick.0 a.request ≡ None
    → Guarantee s a r t → t.history.tree ≡ s.history.tree
stepless_tree s t a r e m = m.tree ∙ ap (λ (o : Option TreeStep). tree_by o s.history.tree) (no_step_by a.brick.0 a.request m.real e)

pub stepless_deeds :
    (s t : Scene) (a : Ask) (r : Reply) → request_step a.brick.0 a.request ≡ None
    → Guarantee s a r t → t.mine.deeds ≡ s.mine.deeds
stepless_deeds s t a r e m = m.mine.deeds_are ∙ ap (λ (o : Option TreeStep). deeds_by s t.history.size o) (no_step_by a.brick.0 a.request m.real e)

-- ---- what a brick says of a directory

pub info_none :
    (x : Target) (b : BrickNo) (s t : Scene) (r : Reply) → dir_at s.disk b.0 x.directory ≡ None
    → fault_of r ≡ None → Guarantee s (info_ask x b) r t → r ≡ Declined why.Nodir
info_none x b s t r e z m = row_reply s t (info_ask x b) r m z ∙ ap (λ (o : Option DirRecord). reply_in (within (with_store (s.disk.brick b.0)) (in_dir o (λ y. Do (given.Dirinfo (info_of (s.disk.brick b.0).store x.directory y)) (s.disk.brick b.0).store)))) e

pub info_some :
    (x : Target) (b : BrickNo) (y : DirRecord) (s t : Scene) (r : Reply)
    → dir_at s.disk b.0 x.directory ≡ Some y → fault_of r ≡ None → Guarantee s (info_ask x b) r t
    → r ≡ Carried (given.Dirinfo (info_of (s.disk.brick b.0).store x.directory y))
info_some x b y s t r e z m = row_reply s t (info_ask x b) r m z ∙ ap (λ (o : Option DirRecord). reply_in (within (with_store (s.disk.brick b.0)) (in_dir o (λ y. Do (given.Dirinfo (info_of (s.disk.brick b.0).store x.directory y)) (s.disk.brick b.0).store)))) e

-- ---- a directory's record is set on one brick

-- a brick has this record of the directory, and nothing
-- else of what bricks have of directories changed
pub record SetsDir (s t : Scene) (b : ℕ) (g : Gfid) (y : DirRecord) : Type 0 where
  pub here : dir_at t.disk b g ≡ Some y
  pub off : (i : ℕ) (h : Gfid) → i ≢ b → dir_at t.disk i h ≡ dir_at s.disk i h
  pub others : (i : ℕ) (h : Gfid) → h ≢ g → dir_at t.disk i h ≡ dir_at s.disk i h

apart_some : (g h : Gfid) → h ≢ g → Some g ≢ Some h
apart_some g h ne e = ne (let z : Some g ≡ Some h = e in let q : g ≡ h = cc in sym q)

pub sets_dir :
    (s t : Scene) (a : Ask) (r : Reply) (g : Gfid) (y : DirRecord) (new : Contents)
    (m : Guarantee s a r t)
    → m.new ≡ new → new.store.dirs ≡ insert (s.disk.brick a.brick.0).store.dirs g y
    → SetsDir s t a.brick.0 g y
sets_dir s t a r g y new m is dirs = record {
  here = ap (λ (c : Contents). dir c.store g) (new_is s t a r m ∙ is)
      ∙ (ap (λ (d : Dirs). get d g) dirs ∙ get-insert_here gfid_total (s.disk.brick a.brick.0).store.dirs g y);
  off = λ i h ne. ap (λ (k : ℕ → Contents). dir (k i).store h) m.disk.brick ∙ ap (λ (c : Contents). dir c.store h) (put_other nat_eq exact_nat s.disk.brick a.brick.0 m.new i ne);
  others = λ i h ne. ap (λ (k : ℕ → Contents). dir (k i).store h) m.disk.brick
      ∙ put_keeps (λ (c : Contents). dir c.store h) nat_eq exact_nat s.disk.brick a.brick.0 m.new
      (ap (λ (c : Contents). dir c.store h) is ∙ (ap (λ (d : Dirs). get d h) dirs ∙ insert_dir (s.disk.brick a.brick.0).store.dirs g y h (apart_some g h ne))) i;
}

-- ---- a copy is asked for

-- the record of a copy
abbrev pub new_copy : Gfid → List ℕ → ℕ → Option (List ℕ) → DirRecord
new_copy d n depth value = record { place = Some (record { dir = d; name = n }); depth = depth; value = value }

abbrev pub make_ask : BrickNo → Gfid → List ℕ → Gfid → ℕ → Option (List ℕ) → Ask
make_ask b d n g depth value = record { brick = b; request = OnNames (MakeDir d n g depth value) }

-- what comes of it, by what the brick has of the parent, and by whether the name is free
abbrev make_outcome :
    Option DirRecord → Bool → Gfid → List ℕ → Gfid → ℕ → Option (List ℕ) → Contents
    → Outcome Contents
make_outcome o v d n g depth value c =
    within (with_store c) (in_dir o (λ y. on_slot (MakeDir d n g depth value) c.store (d, n)
    (when v (with_main (slot c.store (d, n)) (main.Dir g)))))

-- the parent is not there; or something stands at the name; or the copy was made
pub data CopyMade (b : BrickNo) (d : Gfid) (n : List ℕ) (g : Gfid) (depth : ℕ) (value : Option (List ℕ)) (s t : Scene) (r : Reply) : Type 0 where
  NoParent : r ≡ Declined why.Nodir → dir_at s.disk b.0 d ≡ None → CopyMade b d n g depth value s t r
  Occupied : r ≡ Declined (why.Slot (slot_shown (slot_at s.disk b.0 (d, n)))) → is_free (slot_at s.disk b.0 (d, n)) ≡ false → CopyMade b d n g depth value s t r
  Made : r ≡ Carried given.Nothing → SetsDir s t b.0 g (new_copy d n depth value) → CopyMade b d n g depth value s t r

make_by :
    (b : BrickNo) (d : Gfid) (n : List ℕ) (g : Gfid) (depth : ℕ) (value : Option (List ℕ))
    (s t : Scene) (r : Reply) (o : Option DirRecord) (v : Bool)
    → dir_at s.disk b.0 d ≡ o → is_free (slot_at s.disk b.0 (d, n)) ≡ v
    → (m : Guarantee s (make_ask b d n g depth value) r t)
    → r ≡ reply_in (make_outcome o v d n g depth value (s.disk.brick b.0))
    → m.new ≡ left_by (make_outcome o v d n g depth value (s.disk.brick b.0)) (s.disk.brick b.0)
    → CopyMade b d n g depth value s t r
make_by b d n g depth value s t r None v e f m reply new = NoParent reply e
make_by b d n g depth value s t r (Some y) false e f m reply new = Occupied reply f
make_by b d n g depth value s t r (Some y) true e f m reply new = Made reply (sets_dir s t (make_ask b d n g depth value) r g (new_copy d n depth value) _ m new refl)

pub copy_made :
    (b : BrickNo) (d : Gfid) (n : List ℕ) (g : Gfid) (depth : ℕ) (value : Option (List ℕ))
    (s t : Scene) (r : Reply)
    → fault_of r ≡ None → Guarantee s (make_ask b d n g depth value) r t
    → CopyMade b d n g depth value s t r
copy_made b d n g depth value s t r z m =
    let row = row_moved s t (make_ask b d n g depth value) r m z in
    make_by b d n g depth value s t r (dir_at s.disk b.0 d) (is_free (slot_at s.disk b.0 (d, n))) refl refl m row.0 row.1

-- ---- a range is set

abbrev laid_copy : DirRecord → Option (List ℕ) → DirRecord
laid_copy y value = record y { value = value }

abbrev layout_outcome : Option DirRecord → Gfid → Option (List ℕ) → Contents → Outcome Contents
layout_outcome o g value c =
    within (with_store c) (in_dir o (λ y. Do given.Nothing (with_dir c.store g (laid_copy y value))))

-- a brick that has a copy gives it the range
pub record RangeSet (x : Target) (b : BrickNo) (s t : Scene) (r : Reply) : Type 0 where
  pub reply : r ≡ Carried given.Nothing
  pub copy : DirRecord
  pub value : copy.value ≡ value_of (slice_index_or x.plan b.0 None)
  pub sets : SetsDir s t b.0 x.directory copy

range_by :
    (x : Target) (b : BrickNo) (s t : Scene) (r : Reply) (o : Option DirRecord) → is_some o ≡ true
    → (m : Guarantee s (layout_ask x b) r t)
    → r
    ≡ reply_in
    (layout_outcome o x.directory (value_of (slice_index_or x.plan b.0 None))
    (s.disk.brick b.0))
    → m.new
    ≡ left_by
    (layout_outcome o x.directory (value_of (slice_index_or x.plan b.0 None))
    (s.disk.brick b.0))
    (s.disk.brick b.0)
    → RangeSet x b s t r
range_by x b s t r None there m reply new = absurd (let z : false ≡ true = there in cc)
range_by x b s t r (Some y) there m reply new = record {
  reply = reply;
  copy = laid_copy y (value_of (slice_index_or x.plan b.0 None));
  value = refl;
  sets = sets_dir s t (layout_ask x b) r x.directory (laid_copy y (value_of (slice_index_or x.plan b.0 None))) _ m new refl;
}

pub range_set :
    (x : Target) (b : BrickNo) (s t : Scene) (r : Reply) → IsCopied x.directory b.0 s
    → fault_of r ≡ None → Guarantee s (layout_ask x b) r t → RangeSet x b s t r
range_set x b s t r there z m =
    let row = row_moved s t (layout_ask x b) r m z in
    range_by x b s t r (dir_at s.disk b.0 x.directory) there m row.0 row.1

-- ---- what stands at a directory's name is its copy

shown_dir :
    (g : Gfid) (v : Bool) (m : Option Main) → visible m ≡ when_on v (main.Dir g)
    → is_vacant m ≡ false → is_dir g m ≡ true
shown_dir g v None e k = absurd (let z : true ≡ false = k in cc)
shown_dir g v (Some (main.Linkto value)) e k = absurd (let z : true ≡ false = k in cc)
shown_dir g false (Some (main.Dir h)) e k = absurd (let z : Some (main.Dir h) ≡ None = e in cc)
shown_dir g true (Some (main.Dir h)) e k =
    let z : Some (main.Dir h) ≡ Some (main.Dir g) = e in
    let same : h ≡ g = cc in
    (exact_gfid g h).1 (sym same)
shown_dir g false (Some (main.File f over)) e k = absurd (let z : Some (main.File f over) ≡ None = e in cc)
shown_dir g true (Some (main.File f over)) e k = absurd (let z : Some (main.File f over) ≡ Some (main.Dir g) = e in cc)

not_vacant : (p : Slot) → p.standby ≡ None → is_free p ≡ false → is_vacant p.main ≡ false
not_vacant p e k = by (is_vacant p.main) refl
  where
    by : (v : Bool) → is_vacant p.main ≡ v → v ≡ false
    by false q = refl
    by true q = absurd (let z : true ≡ false = sym (ap (λ (o : Option Standby). is_none o) e) ∙ (ap (λ (w : Bool). w && is_none p.standby) (sym q) ∙ k) in cc)

-- so a brick where the name is not free has a copy
pub occupied_copied :
    (s : Scene) (g : Gfid) (e : Entry) (on : ℕ → Bool) (b : ℕ) → Sound s → b < s.disk.count
    → NameStands s e (Folder g on) → is_free (slot_at s.disk b e) ≡ false → IsCopied g b s
occupied_copied s g e on b sound l stands taken =
    let has = stands.has b l in
    let p : Slot = slot_at s.disk b e in
    let is : is_dir g p.main ≡ true = shown_dir g (on b) p.main (ap (λ (x : Slot). x.main) has) (not_vacant p (ap (λ (x : Slot). x.standby) has) taken) in
    ap is_some ((sound.kept.things.dirs g).named b e l is).there
