-- The requests that may be sent to a brick: by the bricks that they name, and
-- their sizes. And what is stored and replied: by the bricks that it names.
use Rattle.std.specs.Prelude.{ℕ, ◌<◌, ◌≢◌, Option, IfSome, All}
use Rattle.std.specs.FinMap.{get}
use Rattle.dht_types.specs.Gfid.{Entry, home, root}
use Rattle.dht_types.specs.Saved.{IsValue}
use Rattle.dht_types.specs.declared.identifiers.Gfid.{Gfid}
use Rattle.dht_types.specs.declared.identifiers.BrickNo.{BrickNo}
use Rattle.dht_types.specs.declared.names.EntryKey.{EntryKey}
use Rattle.dht_types.specs.declared.stored.DirRecord.{DirRecord}
use Rattle.dht_types.specs.declared.stored.Main.{Main}
use Rattle.dht_types.specs.declared.stored.Main.TheVariants.{Dir, File, Linkto}
use Rattle.dht_types.specs.declared.stored.Slot.{Slot}
use Rattle.dht_types.specs.declared.stored.Record.{Record}
use Rattle.dht_types.specs.declared.stored.Record.TheVariants.{Live, Moving, Standby as Copied, Forward}
use Rattle.dht_brick.specs.Contents.{Store}
use Rattle.dht_brick.specs.declared.replies.Look.{Look}
use Rattle.dht_brick.specs.declared.replies.PageEntry.{PageEntry}
use Rattle.dht_brick.specs.declared.replies.MainShown.{MainShown}
use Rattle.dht_brick.specs.declared.replies.MainShown.TheVariants as shown
use Rattle.dht_brick.specs.declared.replies.Given.{Given}
use Rattle.dht_brick.specs.declared.replies.Given.TheVariants as given
use Rattle.dht_brick.specs.declared.replies.Why.{Why}
use Rattle.dht_brick.specs.declared.replies.Why.TheVariants as why
use Rattle.dht_brick.specs.declared.replies.Reply.{Reply}
use Rattle.dht_brick.specs.declared.replies.Reply.TheVariants as reply
use Rattle.dht_brick.specs.declared.requests.NameRequest.{NameRequest}
use Rattle.dht_brick.specs.declared.requests.NameRequest.TheVariants.{SetLayout, MakeDir, MakeLinkto, Contest, Swap}
use Rattle.dht_brick.specs.declared.requests.FileRequest.{FileRequest}
use Rattle.dht_brick.specs.declared.requests.FileRequest.TheVariants.{Mark, MakeStandby}
use Rattle.dht_brick.specs.declared.requests.Request.{Request}
use Rattle.dht_brick.specs.declared.requests.Request.TheVariants.{OnNames, OnFile}

-- a directory that is made is not the root, and its home is one of so many bricks
abbrev pub MayBeMade : ℕ → Gfid → Type 0
MayBeMade count g = (home g < count) × (g ≢ root)

-- each brick that is named is one of so many, and each value is one
abbrev pub NameMayBeSent : ℕ → NameRequest → Type 0
NameMayBeSent count (SetLayout d value) = IfSome value IsValue
NameMayBeSent count (MakeDir d n g depth value) = MayBeMade count g × IfSome value IsValue
NameMayBeSent count (MakeLinkto d n value) = IsValue value
NameMayBeSent count (Contest d n f brick) = brick.0 < count
NameMayBeSent count (Swap d n f value) = IsValue value
NameMayBeSent count q = Unit {0}

abbrev pub FileMayBeSent : ℕ → FileRequest → Type 0
FileMayBeSent count (Mark f dest) = dest.0 < count
FileMayBeSent count (MakeStandby f d n source hop) = source.0 < count
FileMayBeSent count q = Unit {0}

abbrev pub MayBeSent : ℕ → Request → Type 0
MayBeSent count (OnNames q) = NameMayBeSent count q
MayBeSent count (OnFile q) = FileMayBeSent count q
MayBeSent count q = Unit {0}

-- ---- what is stored and replied

-- the number of a brick is one of so many
abbrev pub IsBrick : ℕ → BrickNo → Type 0
IsBrick count brick = brick.0 < count

-- the home of a directory is one of so many bricks
abbrev pub IsHomed : ℕ → Gfid → Type 0
IsHomed count g = home g < count

-- so is the home of the directory above, if there is one
abbrev pub PlaceIsWithin : ℕ → Option EntryKey → Type 0
PlaceIsWithin count place = IfSome place (λ k. IsHomed count k.dir)

-- a directory and its record: its home, and that of the directory above it
abbrev pub DirIsWithin : ℕ → Gfid → DirRecord → Type 0
DirIsWithin count g r = IsHomed count g × PlaceIsWithin count r.place

-- the main part of a slot: the home of a directory, or the brick for which a file's name is marked
abbrev pub MainIsWithin : ℕ → Main → Type 0
MainIsWithin count (Dir g) = IsHomed count g
MainIsWithin count (File f over) = IfSome over (IsBrick count)
MainIsWithin count (Linkto value) = Unit {0}

-- a slot: its main part, if it has one
abbrev pub SlotIsWithin : ℕ → Slot → Type 0
SlotIsWithin count p = IfSome p.main (MainIsWithin count)

-- the record of a file: the brick that it is copied to or from, or was moved to
abbrev pub RecordIsWithin : ℕ → Record → Type 0
RecordIsWithin count (Live hop bytes) = Unit {0}
RecordIsWithin count (Moving hop dest bytes) = IsBrick count dest
RecordIsWithin count (Copied c) = IsBrick count c.source
RecordIsWithin count (Forward hop brick) = IsBrick count brick

-- a store names only bricks of a volume of so many,
-- and only directories whose homes are such bricks
pub record StoreIsWithin (count : ℕ) (s : Store) : Type 0 where
  pub dirs : (g : Gfid) → IfSome (get s.dirs g) (DirIsWithin count g)
  pub slots : (e : Entry) → IfSome (get s.slots e) (SlotIsWithin count)
  pub files : (f : Gfid) → IfSome (get s.files f) (RecordIsWithin count)

-- a look at a name: the slot, and the brick that the file is copied to
abbrev pub LookIsWithin : ℕ → Look → Type 0
LookIsWithin count look =
    SlotIsWithin count look.slot × IfSome look.file (λ f. IfSome f.dest (IsBrick count))

-- a name on a page: the home of its directory, if it is one
abbrev pub PageEntryIsWithin : ℕ → PageEntry → Type 0
PageEntryIsWithin count e = IfSome e.dir (IsHomed count)

-- what is given names only such bricks and directories
abbrev pub GivenIsWithin : ℕ → Given → Type 0
GivenIsWithin count (given.Look look) = LookIsWithin count look
GivenIsWithin count (given.Page entries) = All (PageEntryIsWithin count) entries
GivenIsWithin count (given.Dirinfo info) = PlaceIsWithin count info.place
GivenIsWithin count (given.Stat stat) = IfSome stat.dest (IsBrick count)
GivenIsWithin count given = Unit {0}

-- the main part of a slot as a refusal shows it
abbrev pub ShownIsWithin : ℕ → MainShown → Type 0
ShownIsWithin count (shown.Dir g) = IsHomed count g
ShownIsWithin count (shown.File f over) = IfSome over (IsBrick count)
ShownIsWithin count shown.Linkto = Unit {0}

-- a refusal names only such bricks and directories
abbrev pub WhyIsWithin : ℕ → Why → Type 0
WhyIsWithin count (why.Slot parts) = IfSome parts.main (ShownIsWithin count)
WhyIsWithin count (why.Moving dest) = IsBrick count dest
WhyIsWithin count (why.Standby source hop) = IsBrick count source
WhyIsWithin count (why.Forward brick hop) = IsBrick count brick
WhyIsWithin count reason = Unit {0}

-- and so does a reply
abbrev pub ReplyIsWithin : ℕ → Reply → Type 0
ReplyIsWithin count (reply.Ok given) = GivenIsWithin count given
ReplyIsWithin count (reply.Refused reason) = WhyIsWithin count reason
ReplyIsWithin count r = Unit {0}
