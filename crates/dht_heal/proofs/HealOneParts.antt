-- What the healing of one directory leaves, as a part of a heal.
use Rattle.std.proofs.Common.{◌≡◌, ◌≢◌, ◌<◌, ◌+◌, ◌-◌, ℕ, Bool, true, false, refl, sym, ◌∙◌, subst, arith, inl, inr, ◌⊎◌}
use Rattle.std.specs.Prelude.{Option, Some, None, if◌then◌else◌, nat_lt, nat_le, ◌&&◌}
use Rattle.dht_types.specs.History.{is_carried}
use Rattle.dht_types.specs.declared.calls.TreeStep.TheVariants.{AddDir}
use Rattle.dht_types.specs.declared.errors.Errno.{Errno}
use Rattle.dht_types.specs.declared.identifiers.BrickNo.{BrickNo}
use Rattle.dht_types.specs.declared.identifiers.Gfid.{Gfid}
use Rattle.dht_types.specs.declared.names.EntryKey.{EntryKey}
use Rattle.dht_brick.proofs.LocalityLaws.{names_are_local}
use Rattle.dht_brick.specs.Contents.{Contents, Store, dir}
use Rattle.dht_brick.specs.Kinds.{reply_kind}
use Rattle.dht_brick.specs.Locality.{IsLocal, Places, name_places}
use Rattle.dht_brick.specs.NameRows.{name_row}
use Rattle.dht_brick.specs.Outcome.{Outcome, Do, Refuse, Await, left_by, within}
use Rattle.dht_brick.specs.Rows.{with_store}
use Rattle.dht_brick.specs.declared.replies.Reply.{Reply}
use Rattle.dht_brick.specs.declared.requests.NameRequest.{NameRequest}
use Rattle.dht_brick.specs.declared.requests.Request.TheVariants.{OnNames}
use Rattle.dht_section.proofs.SceneLaws.{brick_keeps, dir_moved, tree_quiet}
use Rattle.dht_section.specs.Disk.{dir_at}
use Rattle.dht_section.specs.Looks.{is_nodir}
use Rattle.dht_section.specs.Moves.{Guarantee}
use Rattle.dht_section.specs.Replies.{fault_of}
use Rattle.dht_section.specs.Scene.{Scene}
use Rattle.dht_section.specs.Section.{shows_gone}
use Rattle.dht_section.specs.Stages.{MatchTurn}
use Rattle.dht_heal.proofs.HealOneRequests.{stepless_tree}
use Rattle.dht_heal.specs.Heal.{gone_line, heal_one_gone}
use Rattle.dht_heal.specs.HealOne.{WasMissing, copied_at, copied_from, copy_answered, copying, has_copy, heal_one_after, heal_one_stage, is_faulty, is_told, laid, layout_answered, lock_answered, next_missing, no_survey, settled, survey_answered, survey_with, surveyed, target_of, unless_fault}
use Rattle.dht_heal.specs.HealOneLaws.{copying_missing, no_home_step}
use Rattle.dht_heal.specs.declared.heal_one.HealOne.{HealOne}
use Rattle.dht_heal.specs.declared.heal_one.HealOne.TheVariants.{Locking, Surveying, Copying, Laying, Unlocking}
use Rattle.dht_heal.specs.declared.heal_one.HealedOne.{HealedOne}
use Rattle.dht_heal.specs.declared.heal_one.HealedOne.TheVariants.{Healed, Gone, Parent, Stopped}
use Rattle.dht_heal.specs.declared.heal_one.Survey.{Survey}
use Rattle.dht_heal.specs.declared.heal_one.Target.{Target}

-- ---- the copies of other directories

local_kept :
    (p : Places) (c : Contents) (h : Gfid) (o : Outcome Store) → p.dir ≢ Some h
    → IsLocal p c.store o → dir (left_by (within (with_store c) o) c).store h ≡ dir c.store h
local_kept p c h (Do given new) ne l = l.dirs h ne
local_kept p c h (Refuse why) ne l = refl
local_kept p c h (Await holder) ne l = refl

other_kept :
    (s t : Scene) (b : BrickNo) (q : NameRequest) (r : Reply) (h : Gfid)
    → (name_places q).dir ≢ Some h → Guarantee s (record { brick = b; request = OnNames q }) r t
    → (i : ℕ) → dir_at t.disk i h ≡ dir_at s.disk i h
other_kept s t b q r h ne m = brick_keeps (λ (c : Contents). dir c.store h) s t _ r m (local_kept (name_places q) (s.disk.brick b.0) h (name_row _ q (s.disk.brick b.0).store) ne (names_are_local _ q (s.disk.brick b.0).store))

differs : (g h : Gfid) → h ≢ g → Some g ≢ Some h
differs g h ne e = ne (let z : Some g ≡ Some h = e in let k : g ≡ h = cc in sym k)

pub one_keeps :
    (m : HealOne) (h : Gfid) (r : Reply) (s t : Scene) → h ≢ (target_of m).directory
    → Guarantee s (heal_one_stage m).asks r t → (b : ℕ) → dir_at t.disk b h ≡ dir_at s.disk b h
one_keeps (Locking x) h r s t ne m b = dir_moved s t _ r m tt h b
one_keeps (Surveying x i v) h r s t ne m b = dir_moved s t _ r m tt h b
one_keeps (Copying x i v k) h r s t ne m b = other_kept s t i _ r h (differs x.directory h ne) m b
one_keeps (Laying x i at) h r s t ne m b = other_kept s t i _ r h (differs x.directory h ne) m b
one_keeps (Unlocking x d) h r s t ne m b = dir_moved s t _ r m tt h b

-- ---- the tree

pub one_tree :
    (m : HealOne) (r : Reply) (s t : Scene) → (heal_one_stage m).knows s
    → Guarantee s (heal_one_stage m).asks r t → t.history.tree ≡ s.history.tree
one_tree (Locking x) r s t h m = tree_quiet s t _ r tt m
one_tree (Surveying x i v) r s t h m = tree_quiet s t _ r tt m
one_tree (Copying x i v k) r s t h m = stepless_tree s t _ r (no_home_step i.0 x.directory (AddDir k.dir k.name x.directory) (copying_missing x i v k s h).away) m
one_tree (Laying x i at) r s t h m = stepless_tree s t _ r refl m
one_tree (Unlocking x d) r s t h m = tree_quiet s t _ r tt m

-- ---- what it goes on to

-- it heals the same directory, and has found it to be gone at this line, if at all
pub record Goes (at : ℕ) (x : Target) (n : HealOne) : Type 0 where
  pub target : target_of n ≡ x
  pub gone : (heal_one_gone n ≡ None) ⊎ (heal_one_gone n ≡ Some at)

goes_if :
    (at : ℕ) (x : Target) (b : Bool) (m n : HealOne) → Goes at x m → Goes at x n
    → Goes at x (if b then m else n)
goes_if at x true m n h k = h
goes_if at x false m n h k = k

-- to a stage in which it was not found to be gone
plain : (at : ℕ) (x : Target) (n : HealOne) → target_of n ≡ x → heal_one_gone n ≡ None → Goes at x n
plain at x n e k = record { target = e; gone = inl k }

goes_unless :
    (at : ℕ) (x : Target) (o : Option Errno) (n : HealOne) → Goes at x n
    → Goes at x (unless_fault o x n)
goes_unless at x None n h = h
goes_unless at x (Some e) n h = plain at x (Unlocking x (Stopped e)) refl refl

goes_settled : (at : ℕ) (x : Target) (v : Survey) → Goes at x (settled x v)
goes_settled at x v = goes_if at x (is_faulty v.layout) (Laying x (record { 0 = 0 }) v.home.at) (Unlocking x (Healed v.home.at)) (plain at x (Laying x (record { 0 = 0 }) v.home.at) refl refl) (plain at x (Unlocking x (Healed v.home.at)) refl refl)

goes_copying :
    (at : ℕ) (o : Option BrickNo) (x : Target) (v : Survey) (k : EntryKey)
    → Goes at x (copying o x v k)
goes_copying at None x v k = goes_settled at x v
goes_copying at (Some b) x v k = plain at x (Copying x b v k) refl refl

goes_copied :
    (at : ℕ) (o : Option EntryKey) (x : Target) (v : Survey) (from : ℕ)
    → Goes at x (copied_at o x v from)
goes_copied at None x v from = goes_settled at x v
goes_copied at (Some k) x v from = goes_copying at (next_missing x.bricks v.copies from) x v k

pub one_after :
    (m : HealOne) (r : Reply) (at : ℕ)
    → MatchTurn (heal_one_after m r at) (λ n. Goes at (target_of m) n)
    (λ d. gone_line d ≡ heal_one_gone m)
one_after (Locking x) r at = goes_unless at x (fault_of r) (lock_answered x r) (goes_if at x (is_carried (reply_kind r)) (Surveying x (record { 0 = 0 }) no_survey) (Locking x) (plain at x (Surveying x (record { 0 = 0 }) no_survey) refl refl) (plain at x (Locking x) refl refl))
one_after (Surveying x b v) r at =
    let w : Survey = survey_with x.directory v b r at in
    let next : HealOne = Surveying x (record { 0 = b.0 + 1 }) w in
    let told = goes_if at x (nat_le (x.bricks - b.0) 1) (copied_from x w 0) next (goes_copied at w.home.place x w 0) (plain at x next refl refl) in
    let shown = goes_if at x (is_told x.directory r) (surveyed x b w) (Surveying x b v) told (plain at x (Surveying x b v) refl refl) in
    let whole : HealOne = if is_told x.directory r then surveyed x b w else Surveying x b v in
    goes_unless at x (fault_of r) (survey_answered x b v r at) (goes_if at x (shows_gone x.directory b r) (Unlocking x (Gone at)) whole (record { target = refl; gone = inr refl }) shown)
one_after (Copying x b v k) r at =
    let next : HealOne = copied_from x v (b.0 + 1) in
    let whole : HealOne = if has_copy r && nat_lt b.0 x.bricks then next else Copying x b v k in
    let told = goes_if at x (has_copy r && nat_lt b.0 x.bricks) next (Copying x b v k) (goes_copied at v.home.place x v (b.0 + 1)) (plain at x (Copying x b v k) refl refl) in
    goes_unless at x (fault_of r) (copy_answered x b v k r) (goes_if at x (is_nodir r) (Unlocking x (Parent b)) whole (plain at x (Unlocking x (Parent b)) refl refl) told)
one_after (Laying x b line) r at =
    let next : HealOne = Laying x (record { 0 = b.0 + 1 }) line in
    let on = goes_if at x (nat_le (x.bricks - b.0) 1) (Unlocking x (Healed line)) next (plain at x (Unlocking x (Healed line)) refl refl) (plain at x next refl refl) in
    goes_unless at x (fault_of r) (layout_answered x b line r) (goes_if at x (is_carried (reply_kind r)) (laid x b line) (Laying x b line) on (plain at x (Laying x b line) refl refl))
one_after (Unlocking x d) r at = refl

-- where it was found to be gone, it is known to have been
told_gone :
    (x : Target) (d : HealedOne) (at : ℕ) (s : Scene) → gone_line d ≡ Some at
    → (heal_one_stage (Unlocking x d)).knows s → WasMissing x.directory at s
told_gone x (Healed l) at s e h = absurd (let z : None ≡ Some at = e in cc)
told_gone x (Gone l) at s e h = subst (λ (i : ℕ). WasMissing x.directory i s) (let z : Some l ≡ Some at = e in let k : l ≡ at = cc in k) h.told
told_gone x (Parent b) at s e h = absurd (let z : None ≡ Some at = e in cc)
told_gone x (Stopped y) at s e h = absurd (let z : None ≡ Some at = e in cc)

pub knows_gone :
    (n : HealOne) (at : ℕ) (s : Scene) → heal_one_gone n ≡ Some at → (heal_one_stage n).knows s
    → WasMissing (target_of n).directory at s
knows_gone (Locking x) at s e h = absurd (let z : None ≡ Some at = e in cc)
knows_gone (Surveying x b v) at s e h = absurd (let z : None ≡ Some at = e in cc)
knows_gone (Copying x b v k) at s e h = absurd (let z : None ≡ Some at = e in cc)
knows_gone (Laying x b line) at s e h = absurd (let z : None ≡ Some at = e in cc)
knows_gone (Unlocking x d) at s e h = told_gone x d at s e h

-- it sends another request
pub one_goes_on : (m : HealOne) → 0 < (heal_one_stage m).variant
one_goes_on (Locking x) = omega arith
one_goes_on (Surveying x b v) = omega arith
one_goes_on (Copying x b v k) = omega arith
one_goes_on (Laying x b line) = omega arith
one_goes_on (Unlocking x d) = omega arith

pub one_deeds : (m : HealOne) (s : Scene) → (heal_one_stage m).knows s → s.mine.deeds ≡ None
one_deeds (Locking x) s h = h.deeds
one_deeds (Surveying x b v) s h = h.target.deeds
one_deeds (Copying x b v k) s h = h.target.deeds
one_deeds (Laying x b line) s h = h.target.deeds
one_deeds (Unlocking x d) s h = h.target.deeds
