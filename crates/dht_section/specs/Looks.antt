-- What looks showed of names, one after the other.
use Rattle.std.specs.Prelude.{ℕ, zero, suc, ◌+◌, Bool, true, false, nat_lt, if◌then◌else◌, Option, Some, None, List, [], ◌∷◌, ◌++◌, length, slice_index_or, slice_set, replicate}
use Rattle.dht_types.specs.declared.identifiers.BrickNo.{BrickNo}
use Rattle.dht_types.specs.declared.stored.Main.{Main}
use Rattle.dht_types.specs.declared.stored.Main.TheVariants.{Dir as ADir, File as AFile, Linkto as ALinkto}
use Rattle.dht_types.specs.History.{is_carried}
use Rattle.dht_types.specs.Linkto.{linked_brick}
use Rattle.dht_types.specs.Volume.{replay_names}
use Rattle.dht_brick.specs.Kinds.{reply_kind}
use Rattle.dht_brick.specs.declared.replies.FileLook.{FileLook}
use Rattle.dht_brick.specs.declared.replies.Given.TheVariants as given
use Rattle.dht_brick.specs.declared.replies.Reply.{Reply}
use Rattle.dht_brick.specs.declared.replies.Reply.TheVariants.{Ok as Carried, Refused as Declined}
use Rattle.dht_brick.specs.declared.replies.Why.TheVariants.{Nodir}
use Rattle.dht_xattr.specs.declared.range.Range.{Range}
use Rattle.dht_section.specs.Replies.{range_shown}
use Rattle.dht_section.specs.declared.looks.Linkto.{Linkto}
use Rattle.dht_section.specs.declared.looks.Linkto.TheVariants.{No, To, Unread}
use Rattle.dht_section.specs.declared.looks.Place.{Place}
use Rattle.dht_section.specs.declared.looks.Looked.{Looked}
use Rattle.dht_section.specs.declared.looks.Sight.{Sight}
use Rattle.dht_section.specs.declared.looks.What.{What}
use Rattle.dht_section.specs.declared.looks.What.TheVariants.{Absent, Dir, File}

-- the main part that a look shows, and the numbers of the file's record
abbrev pub main_shown : Reply → Option Main
main_shown (Carried (given.Look look)) = look.slot.main
main_shown r = None

abbrev pub links_in : Option FileLook → ℕ
links_in (Some look) = look.links
links_in None = 0

abbrev pub hop_in : Option FileLook → ℕ
hop_in (Some look) = look.hop
hop_in None = 0

abbrev pub links_shown : Reply → ℕ
links_shown (Carried (given.Look look)) = links_in look.file
links_shown r = 0

abbrev pub hop_shown : Reply → ℕ
hop_shown (Carried (given.Look look)) = hop_in look.file
hop_shown r = 0

-- what a name is after a look at one more brick
abbrev pub what_by : What → BrickNo → Option Main → ℕ → What
what_by x b (Some (ADir g)) links = Dir g
what_by x b (Some (AFile f over)) links = File f b links
what_by x b m links = x

abbrev pub hop_by : ℕ → Option Main → ℕ → ℕ
hop_by x (Some (AFile f over)) hop = hop
hop_by x m hop = x

-- where the linkto that a main part is leads, if it is one, in a replay's volume of so many bricks
abbrev pub leads_to : Option ℕ → Linkto
leads_to None = Unread
leads_to (Some b) = To (record { 0 = b })

abbrev pub linkto_in : ℕ → Option Main → Linkto
linkto_in bricks (Some (ALinkto value)) = leads_to (linked_brick (replay_names bricks) value)
linkto_in bricks m = No

-- the ranges with one more; a layout has 32 at most
abbrev pub lengthened : List (Option Range) → Option Range → List (Option Range)
lengthened ranges range = if nat_lt (length ranges) 32 then ranges ++ range ∷ [] else ranges

-- a list with another element at a place of it
abbrev pub with_at : {A : Type 0} → List A → ℕ → A → List A
with_at xs n x = if nat_lt n (length xs) then slice_set xs n x else xs

-- what was seen after a look at one more brick, of so many
abbrev pub sight_with : ℕ → Sight → BrickNo → Reply → Sight
sight_with bricks x b r = record {
  what = what_by x.what b (main_shown r) (links_shown r);
  hop = hop_by x.hop (main_shown r) (hop_shown r);
  linktos = with_at x.linktos b.0 (linkto_in bricks (main_shown r));
  copies = with_at x.copies b.0 (is_carried (reply_kind r));
  layout = lengthened x.layout (range_shown r);
}

-- nothing was seen yet
abbrev pub no_sight : Sight
no_sight = record {
  what = Absent;
  hop = 0;
  linktos = replicate 32 No;
  copies = replicate 32 false;
  layout = [];
}

-- the mark of a brick
abbrev pub mark_at : List Bool → ℕ → Bool
mark_at marks b = slice_index_or marks b false

-- the linkto of a brick, and whether it has one
abbrev pub linkto_at : List Linkto → ℕ → Linkto
linkto_at linktos b = slice_index_or linktos b No

abbrev pub has_linkto : Linkto → Bool
has_linkto No = false
has_linkto x = true

-- no look was made
abbrev pub not_looked : Looked
not_looked = record { sight = no_sight; at = 0 }

-- what was seen of the name at a place, and the list with what was seen of it
abbrev pub looked_at : List Looked → ℕ → Looked
looked_at looks n = slice_index_or looks n not_looked

abbrev pub with_looked : List Looked → ℕ → Looked → List Looked
with_looked looks n x = with_at looks n x

-- the brick has no record of the directory
abbrev pub is_nodir : Reply → Bool
is_nodir (Declined Nodir) = true
is_nodir r = false

-- where the file is, if it is a file
abbrev pub file_in : What → Option Place
file_in (File f b links) = Some (record { brick = b; file = f })
file_in what = None

-- it is no directory
abbrev pub IsNoDir : What → Type 0
IsNoDir (Dir g) = ⊥
IsNoDir what = Unit {0}

-- so many looks are left, of so many names on so many bricks
unfoldable pub looks_left : ℕ → ℕ → ℕ
looks_left bricks zero = 0
looks_left bricks (suc names) = looks_left bricks names + bricks
