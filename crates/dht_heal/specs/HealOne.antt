-- The healing of one directory: where it is between its requests, and how a reply takes it on.
use Rattle.std.specs.Prelude.{ℕ, zero, suc, ◌+◌, ◌-◌, ◌<◌, ◌≤◌, ◌≡◌, ◌≢◌, ◌||◌, ◌&&◌, ◌==◌, not, nat_eq, nat_lt, nat_le, Bool, true, false, if◌then◌else◌, is_some, Option, Some, None, List, [], ◌∷◌, length, replicate, slice_index_or}
use Rattle.std.specs.Option.{option_map}
use Rattle.dht_types.specs.Gfid.{Entry, anchor, home, root, same_gfid}
use Rattle.dht_types.specs.History.{is_carried}
use Rattle.dht_types.specs.Tree.{Descent}
use Rattle.dht_types.specs.declared.errors.Errno.{Errno}
use Rattle.dht_types.specs.declared.identifiers.BrickNo.{BrickNo}
use Rattle.dht_types.specs.declared.identifiers.Gfid.{Gfid}
use Rattle.dht_types.specs.declared.locks.Key.TheVariants.{Dir as DirKey}
use Rattle.dht_types.specs.declared.locks.Mode.TheVariants.{Exclusive}
use Rattle.dht_types.specs.declared.names.EntryKey.{EntryKey}
use Rattle.dht_xattr.specs.Faults.{has_hole, has_overlap}
use Rattle.dht_xattr.specs.Plan.{planned, value_of}
use Rattle.dht_xattr.specs.declared.range.Range.{Range}
use Rattle.dht_brick.specs.Contents.{entry_at}
use Rattle.dht_brick.specs.Kinds.{reply_kind}
use Rattle.dht_brick.specs.declared.replies.Given.TheVariants.{Dirinfo as AnInfo}
use Rattle.dht_brick.specs.declared.replies.Reply.{Reply}
use Rattle.dht_brick.specs.declared.replies.Reply.TheVariants.{Ok as Carried, Refused as Declined}
use Rattle.dht_brick.specs.declared.replies.Why.TheVariants.{Slot}
use Rattle.dht_brick.specs.declared.requests.NameRequest.TheVariants.{Dirinfo, MakeDir, SetLayout}
use Rattle.dht_brick.specs.declared.requests.Request.TheVariants.{Lock as ALock, Unlock, OnNames}
use Rattle.dht_section.specs.Claims.{Claim, claims_locks, no_claim}
use Rattle.dht_section.specs.Disk.{dir_at, range_at}
use Rattle.dht_section.specs.Faults.{brick_error, fault_for}
use Rattle.dht_section.specs.Healed.{IsWhole}
use Rattle.dht_section.specs.Looks.{is_nodir, lengthened, mark_at, with_at}
use Rattle.dht_section.specs.Replies.{fault_of, range_shown}
use Rattle.dht_section.specs.Scene.{Scene, HoldsAlone, IfAlone, MayAnswer, fault_finish}
use Rattle.dht_section.specs.Section.{HasCopy, shows_gone}
use Rattle.dht_section.specs.Shapes.{either}
use Rattle.dht_section.specs.Stages.{Ending, MatchTurn, Stage}
use Rattle.dht_section.specs.declared.machine.Ask.{Ask}
use Rattle.dht_section.specs.declared.machine.Turn.{Turn}
use Rattle.dht_section.specs.declared.machine.Turn.TheVariants.{Go, Done}
use Rattle.dht_heal.specs.declared.heal_one.HealOne.{HealOne}
use Rattle.dht_heal.specs.declared.heal_one.HealOne.TheVariants.{Locking, Surveying, Copying, Laying, Unlocking}
use Rattle.dht_heal.specs.declared.heal_one.HealedOne.{HealedOne}
use Rattle.dht_heal.specs.declared.heal_one.HealedOne.TheVariants.{Healed, Gone, Parent, Stopped}
use Rattle.dht_heal.specs.declared.heal_one.HomeCopy.{HomeCopy}
use Rattle.dht_heal.specs.declared.heal_one.Survey.{Survey}
use Rattle.dht_heal.specs.declared.heal_one.Target.{Target}

-- ---- what it asks

-- the brick of the directory's lock
abbrev pub anchor_brick : Target → ℕ
anchor_brick x = if x.bricks == 0 then 0 else anchor x.directory x.bricks

abbrev pub lock_ask : Target → Ask
lock_ask x = record {
  brick = record { 0 = anchor_brick x };
  request = ALock (DirKey x.directory) Exclusive;
}

abbrev pub info_ask : Target → BrickNo → Ask
info_ask x b = record { brick = b; request = OnNames (Dirinfo x.directory) }

-- a copy has no range at first
abbrev pub copy_ask : Target → BrickNo → HomeCopy → EntryKey → Ask
copy_ask x b h k = record {
  brick = b;
  request = OnNames (MakeDir k.dir k.name x.directory h.depth None);
}

abbrev pub layout_ask : Target → BrickNo → Ask
layout_ask x b = record {
  brick = b;
  request = OnNames (SetLayout x.directory (value_of (slice_index_or x.plan b.0 None)));
}

abbrev pub unlock_ask : Target → Ask
unlock_ask x = record {
  brick = record { 0 = anchor_brick x };
  request = Unlock (DirKey x.directory);
}

-- ---- what it knows

-- the volume has so many bricks, and the directory's home is one of them; the plan is the
-- directory's; and the call has done no step
pub record IsTarget (x : Target) (s : Scene) : Type 0 where
  pub count : length s.history.weights ≡ x.bricks
  pub home : home x.directory < x.bricks
  pub plan : x.plan ≡ planned s.history.weights x.directory
  pub deeds : s.mine.deeds ≡ None

-- a brick had no copy of a directory, not the root; it is not the home; and it has no range of it
-- still, if the call is alone
pub record HadNone (g : Gfid) (read : Option Range) (b : ℕ) (s : Scene) : Type 0 where
  pub below : g ≢ root
  pub away : b ≢ home g
  pub nothing : read ≡ None
  pub still : IfAlone (λ u. range_at u.disk g b ≡ None) s

-- what a brick showed, by the mark that says whether it had a copy
abbrev pub WasShown : Gfid → Bool → Option Range → ℕ → Scene → Type 0
WasShown g true read b s = HasCopy g read b s
WasShown g false read b s = HadNone g read b s

-- the home showed its copy at this line, which was on it; and the directory stands where it was
-- made, as deep as it was shown
pub record SawHome (g : Gfid) (h : HomeCopy) (s : Scene) : Type 0 where
  pub after : s.mine.since ≤ h.at
  pub before : h.at ≤ s.history.size
  pub there : (s.history.past h.at).dirs g ≡ true
  pub descent : s.history.tree.descents g
      ≡ Some (record { depth = h.depth; place = option_map entry_at h.place })

-- so the bricks below a limit have shown the directory
pub record Shown (g : Gfid) (v : Survey) (limit : ℕ) (s : Scene) : Type 0 where
  pub room : length v.copies ≡ 32
  pub whole : length v.layout ≡ limit
  pub bricks : (b : ℕ)
      → b < limit → WasShown g (mark_at v.copies b) (slice_index_or v.layout b None) b s
  pub home : home g < limit → SawHome g v.home s

-- a brick has a copy
abbrev pub IsCopied : Gfid → ℕ → Scene → Type 0
IsCopied g b s = is_some (dir_at s.disk b g) ≡ true

pub record SurveyingKnows (x : Target) (b : BrickNo) (v : Survey) (s : Scene) : Type 0 where
  pub target : IsTarget x s
  pub holds : HoldsAlone s x.directory
  pub within : b.0 < x.bricks
  pub shown : Shown x.directory v b.0 s

pub record CopyingKnows (x : Target) (b : BrickNo) (v : Survey) (k : EntryKey) (s : Scene)
    : Type 0 where
  pub target : IsTarget x s
  pub holds : HoldsAlone s x.directory
  pub within : b.0 < x.bricks
  pub shown : Shown x.directory v x.bricks s
  pub missing : mark_at v.copies b.0 ≡ false
  pub key : v.home.place ≡ Some k
  pub copied : (i : ℕ) → i < b.0 → IsCopied x.directory i s

-- a brick has a copy, with the planned range
abbrev pub IsLaid : Target → ℕ → Scene → Type 0
IsLaid x b s = HasCopy x.directory (slice_index_or x.plan b None) b s

-- the directory was one of the tree at this line, and the call was running
pub record WasThere (g : Gfid) (at : ℕ) (s : Scene) : Type 0 where
  pub after : s.mine.since ≤ at
  pub before : at ≤ s.history.size
  pub there : (s.history.past at).dirs g ≡ true

pub record LayingKnows (x : Target) (b : BrickNo) (at : ℕ) (s : Scene) : Type 0 where
  pub target : IsTarget x s
  pub holds : HoldsAlone s x.directory
  pub within : b.0 < x.bricks
  pub copied : (i : ℕ) → i < x.bricks → IsCopied x.directory i s
  pub laid : (i : ℕ) → i < b.0 → IsLaid x i s
  pub was : WasThere x.directory at s

-- ---- what its end tells

-- the directory is whole, and one of the tree, if the call was alone
pub record IsMended (g : Gfid) (at : ℕ) (s : Scene) : Type 0 where
  pub was : WasThere g at s
  pub whole : IfAlone (λ u. IsWhole u.disk g) s
  pub still : IfAlone (λ u. u.history.tree.dirs g ≡ true) s

-- at this line the tree had no such directory, and has none still, if the call was alone
pub record WasMissing (g : Gfid) (at : ℕ) (s : Scene) : Type 0 where
  pub after : s.mine.since ≤ at
  pub before : at ≤ s.history.size
  pub gone : (s.history.past at).dirs g ≡ false
  pub still : IfAlone (λ u. u.history.tree.dirs g ≡ false) s

-- the directory was made in another one, of which a brick has no copy
abbrev pub HasNoParent : Gfid → ℕ → Scene → Type 0
HasNoParent g b s =
    (x : Descent) × (e : Entry) × (s.history.tree.descents g ≡ Some x) × (x.place ≡ Some e)
    × (dir_at s.disk b e.0 ≡ None)

-- so it is, if the call was alone
pub record LacksParent (g : Gfid) (b : BrickNo) (s : Scene) : Type 0 where
  pub there : b.0 < s.disk.count
  pub lacks : IfAlone (HasNoParent g b.0) s

abbrev pub Told : Gfid → HealedOne → Scene → Type 0
Told g (Healed at) s = IsMended g at s
Told g (Gone at) s = WasMissing g at s
Told g (Parent b) s = LacksParent g b s
Told g (Stopped e) s = (brick_error e ≡ Some e) × MayAnswer (fault_finish e) s

-- and the call has done no step
abbrev pub HealedSo : Gfid → HealedOne → Scene → Type 0
HealedSo g d s = (s.mine.deeds ≡ None) × Told g d s

pub record UnlockingKnows (x : Target) (d : HealedOne) (s : Scene) : Type 0 where
  pub target : IsTarget x s
  pub told : Told x.directory d s

-- what it hands out of a directory, when it is done: nothing is claimed any more
abbrev pub healed_one : Gfid → HealedOne → Ending
healed_one g d = record { claims = no_claim; earned = HealedSo g d }

-- the same of some directory
abbrev pub healed_some : HealedOne → Ending
healed_some d = record { claims = no_claim; earned = λ s. (g : Gfid) × HealedSo g d s }

-- ---- where it is between its requests

-- the directory's lock is claimed from its first request to its last
abbrev pub target_claim : Target → Claim
target_claim x = claims_locks (record { brick = anchor_brick x; key = DirKey x.directory } ∷ [])

abbrev pub heal_one_stage : HealOne → Stage
heal_one_stage (Locking x) = record {
  asks = lock_ask x;
  claims = target_claim x;
  variant = x.bricks + x.bricks + x.bricks + 2;
  knows = λ s. IsTarget x s;
}
heal_one_stage (Surveying x b v) = record {
  asks = info_ask x b;
  claims = target_claim x;
  variant = x.bricks - b.0 + x.bricks + x.bricks + 1;
  knows = λ s. SurveyingKnows x b v s;
}
heal_one_stage (Copying x b v k) = record {
  asks = copy_ask x b v.home k;
  claims = target_claim x;
  variant = x.bricks - b.0 + x.bricks + 1;
  knows = λ s. CopyingKnows x b v k s;
}
heal_one_stage (Laying x b at) = record {
  asks = layout_ask x b;
  claims = target_claim x;
  variant = x.bricks - b.0 + 1;
  knows = λ s. LayingKnows x b at s;
}
heal_one_stage (Unlocking x d) = record {
  asks = unlock_ask x;
  claims = target_claim x;
  variant = 1;
  knows = λ s. UnlockingKnows x d s;
}

-- what is healed
abbrev pub target_of : HealOne → Target
target_of (Locking x) = x
target_of (Surveying x b v) = x
target_of (Copying x b v k) = x
target_of (Laying x b at) = x
target_of (Unlocking x d) = x

-- ---- its beginning

abbrev pub first_heal_one : ℕ → List (Option Range) → Gfid → HealOne
first_heal_one bricks plan g = Locking (record { directory = g; bricks = bricks; plan = plan })

-- the scene in which it begins
pub record MayHealOne (bricks : ℕ) (plan : List (Option Range)) (g : Gfid) (s : Scene)
    : Type 0 where
  pub count : length s.history.weights ≡ bricks
  pub home : home g < bricks
  pub planned : plan ≡ planned s.history.weights g
  pub deeds : s.mine.deeds ≡ None

-- ---- how a reply takes it on

-- no brick has shown anything
abbrev pub no_survey : Survey
no_survey = record {
  home = record { place = None; depth = 0; at = 0 };
  copies = replicate 32 false;
  layout = [];
}

-- the copy of the home that a reply shows
abbrev pub home_shown : Reply → ℕ → HomeCopy
home_shown (Carried (AnInfo info)) at = record { place = info.place; depth = info.depth; at = at }
home_shown r at = record { place = None; depth = 0; at = at }

abbrev pub survey_with : Gfid → Survey → BrickNo → Reply → ℕ → Survey
survey_with g v b r at = record {
  home = if nat_eq b.0 (home g) then home_shown r at else v.home;
  copies = with_at v.copies b.0 (is_carried (reply_kind r));
  layout = lengthened v.layout (range_shown r);
}

-- a brick told what it has of a directory; that it has no copy is no answer of the root's
abbrev pub is_told : Gfid → Reply → Bool
is_told g r = is_carried (reply_kind r) || (is_nodir r && not (same_gfid g root))

-- a brick has a copy after the request to make one
abbrev pub has_copy : Reply → Bool
has_copy (Carried given) = true
has_copy (Declined (Slot shown)) = true
has_copy r = false

-- a hash is in no range, or in two
abbrev pub is_faulty : List (Option Range) → Bool
is_faulty ranges = has_hole ranges || has_overlap ranges

-- the first of so many bricks, from this one on, that had no copy
unfoldable pub first_missing : List Bool → ℕ → ℕ → Option BrickNo
first_missing marks b zero = None
first_missing marks b (suc more) =
    if mark_at marks b then first_missing marks (suc b) more else Some (record { 0 = b })

abbrev pub next_missing : ℕ → List Bool → ℕ → Option BrickNo
next_missing bricks marks from = first_missing marks from (bricks - from)

abbrev pub settled : Target → Survey → HealOne
settled x v =
    if is_faulty v.layout
    then Laying x (record { 0 = 0 }) v.home.at
    else Unlocking x (Healed v.home.at)

abbrev pub copying : Option BrickNo → Target → Survey → EntryKey → HealOne
copying None x v k = settled x v
copying (Some b) x v k = Copying x b v k

-- the root alone stands at no name, and each brick has it
abbrev pub copied_at : Option EntryKey → Target → Survey → ℕ → HealOne
copied_at None x v from = settled x v
copied_at (Some k) x v from = copying (next_missing x.bricks v.copies from) x v k

abbrev pub copied_from : Target → Survey → ℕ → HealOne
copied_from x v from = copied_at v.home.place x v from

abbrev pub surveyed : Target → BrickNo → Survey → HealOne
surveyed x b v =
    if nat_le (x.bricks - b.0) 1
    then copied_from x v 0
    else Surveying x (record { 0 = b.0 + 1 }) v

abbrev pub laid : Target → BrickNo → ℕ → HealOne
laid x b line =
    if nat_le (x.bricks - b.0) 1
    then Unlocking x (Healed line)
    else Laying x (record { 0 = b.0 + 1 }) line

abbrev pub lock_answered : Target → Reply → HealOne
lock_answered x r =
    if is_carried (reply_kind r)
    then Surveying x (record { 0 = 0 }) no_survey
    else Locking x

abbrev pub survey_answered : Target → BrickNo → Survey → Reply → ℕ → HealOne
survey_answered x b v r at =
    if shows_gone x.directory b r
    then Unlocking x (Gone at)
    else (
    if is_told x.directory r
    then surveyed x b (survey_with x.directory v b r at)
    else Surveying x b v)

abbrev pub copy_answered : Target → BrickNo → Survey → EntryKey → Reply → HealOne
copy_answered x b v k r =
    if is_nodir r
    then Unlocking x (Parent b)
    else (
    if has_copy r && nat_lt b.0 x.bricks
    then copied_from x v (b.0 + 1)
    else Copying x b v k)

abbrev pub layout_answered : Target → BrickNo → ℕ → Reply → HealOne
layout_answered x b line r =
    if is_carried (reply_kind r)
    then laid x b line
    else Laying x b line

abbrev pub unless_fault : Option Errno → Target → HealOne → HealOne
unless_fault None x m = m
unless_fault (Some e) x m = Unlocking x (Stopped e)

abbrev pub heal_one_after : HealOne → Reply → ℕ → Turn HealOne HealedOne
heal_one_after (Locking x) r at = Go (unless_fault (fault_of r) x (lock_answered x r))
heal_one_after (Surveying x b v) r at =
    Go (unless_fault (fault_of r) x (survey_answered x b v r at))
heal_one_after (Copying x b v k) r at = Go (unless_fault (fault_of r) x (copy_answered x b v k r))
heal_one_after (Laying x b line) r at =
    Go (unless_fault (fault_of r) x (layout_answered x b line r))
heal_one_after (Unlocking x d) r at = Done d

-- ---- the error that it notes

abbrev pub told_fault : HealedOne → Option Errno
told_fault (Stopped e) = Some e
told_fault d = None

abbrev pub heal_one_fault : HealOne → Option Errno
heal_one_fault (Unlocking x d) = told_fault d
heal_one_fault m = None

-- it is stopped exactly by the first reply that tells of a brick's error
abbrev pub NotesStop : HealOne → Reply → Turn HealOne HealedOne → Type 0
NotesStop m r turn =
    MatchTurn turn
    (λ n. heal_one_fault n
    ≡ either (heal_one_fault m) (fault_for (heal_one_stage m).asks.request r))
    (λ d. told_fault d ≡ either (heal_one_fault m) (fault_for (heal_one_stage m).asks.request r))
