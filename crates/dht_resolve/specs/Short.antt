-- How few requests a first lookup sends where the name's
-- holder shows the file, or a linkto to its brick.
use Rattle.std.specs.Prelude.{ℕ, ◌+◌, ◌≤◌, ◌≡◌, true, false, Option, Some, None, List, [], ◌∷◌, ◌++◌, length, map}
use Rattle.dht_types.specs.Linkto.{linked_brick}
use Rattle.dht_types.specs.Volume.{replay_names}
use Rattle.dht_types.specs.declared.identifiers.Gfid.{Gfid}
use Rattle.dht_types.specs.declared.stored.Main.TheVariants.{Linkto}
use Rattle.dht_brick.specs.declared.replies.Reply.{Reply}
use Rattle.dht_xattr.specs.declared.range.Range.{Range}
use Rattle.dht_section.specs.Ended.{found_at}
use Rattle.dht_section.specs.Location.{prepared_at}
use Rattle.dht_section.specs.Looks.{main_shown}
use Rattle.dht_section.specs.Replies.{fault_of, file_shown, is_shown, range_shown}
use Rattle.dht_section.specs.Section.{shows_gone}
use Rattle.dht_section.specs.declared.location.Location.{Location}
use Rattle.dht_section.specs.declared.machine.Turn.{Turn}
use Rattle.dht_section.specs.declared.machine.Turn.TheVariants.{Go, Done}
use Rattle.dht_resolve.specs.Lookup.{first_lookup, holder_in}
use Rattle.dht_resolve.specs.Turns.{answers_so, lookup_after}
use Rattle.dht_resolve.specs.declared.lookup.Lookup.{Lookup}
use Rattle.dht_resolve.specs.declared.lookup.Resolved.{Resolved}

-- a reply, and its line
abbrev pub Told : Type 0
Told = Reply × ℕ

-- where a lookup is after these replies, one to each of its requests
abbrev pub after_all : Turn Lookup Resolved → List Told → Turn Lookup Resolved
after_all (Done d) xs = Done d
after_all (Go m) [] = Go m
after_all (Go m) (x ∷ xs) = after_all (lookup_after m x.0 x.1) xs

-- a brick showed its range of the directory, or that it has no record; the home showed its record
pub record IsRead (l : Location) (b : ℕ) (r : Reply) : Type 0 where
  pub sound : fault_of r ≡ None
  pub shown : is_shown r ≡ true
  pub there : shows_gone l.directory (record { 0 = b }) r ≡ false

-- so did each from this brick on
abbrev pub AllRead : Location → ℕ → List Told → Type 0
AllRead l b [] = Unit {0}
AllRead l b (x ∷ xs) = IsRead l b x.0 × AllRead l (b + 1) xs

abbrev pub ranges_read : List Told → List (Option Range)
ranges_read xs = map (λ x. range_shown x.0) xs

-- all bricks were asked for the directory's record, and
-- by what they showed this one is the name's holder
pub record IsSurvey (l : Location) (xs : List Told) (b : ℕ) : Type 0 where
  pub few : l.bricks ≤ 32
  pub each : length xs ≡ l.bricks
  pub read : AllRead l 0 xs
  pub holds : holder_in (ranges_read xs) l.name ≡ Some b

-- it ends with the answer that the file is there
abbrev pub EndsWith : Location → List Told → Gfid → ℕ → ℕ → List (Option Range) → Type 0
EndsWith l xs f at b ranges =
    after_all (Go (first_lookup l None)) xs
    ≡ Done (record {
      answered = answers_so l (found_at f at) (Some (record { 0 = b })) (Some ranges);
      room = Some (prepared_at l);
    })

-- with the look that shows the file, it has sent one request more than there are bricks
abbrev pub FindsAtHolder : Type 0
FindsAtHolder = (l : Location) (xs : List Told) (b : ℕ) (f : Gfid) (look : Reply) (at : ℕ)
    → IsSurvey l xs b → file_shown look ≡ Some f
    → EndsWith l (xs ++ (look, at) ∷ []) f at b (ranges_read xs)

-- and two more, where the holder shows a linkto to the file's brick
abbrev pub FindsByLinkto : Type 0
FindsByLinkto =
    (l : Location) (xs : List Told) (b c : ℕ) (value : List ℕ) (f : Gfid) (link look : Reply)
    (i at : ℕ)
    → IsSurvey l xs b → main_shown link ≡ Some (Linkto value)
    → linked_brick (replay_names l.bricks) value ≡ Some c → file_shown look ≡ Some f
    → EndsWith l (xs ++ (link, i) ∷ (look, at) ∷ []) f at c (ranges_read xs)
