-- The lines of a schedule: the text of an event, and which events have a line.
use Rattle.std.specs.Prelude.{ℕ, ◌^◌, ◌≡◌, ◌≢◌, ◌≤◌, ◌<◌, ◌⊎◌, Option, Some, None, List, [], ◌∷◌, ◌++◌, length, codes, decimal, All, Contains, Result, Ok, Err}
use Rattle.dht_types.specs.Calls.{directory_of, name_of}
use Rattle.dht_types.specs.Text.{gfid_text}
use Rattle.dht_types.specs.Volume.{HasWeight}
use Rattle.dht_types.specs.declared.calls.Call.{Call}
use Rattle.dht_types.specs.declared.events.Directory.{Directory}
use Rattle.dht_types.specs.declared.events.Directory.TheVariants.{Root, OfCall, Gfid as OfGfid}
use Rattle.dht_types.specs.declared.events.Event.{Event}
use Rattle.dht_types.specs.declared.events.Event.TheVariants.{Volume, Remount, Call as Called, Step, Down, Up, Die}
use Rattle.dht_sched.specs.declared.fault.LineFault.{LineFault}
use Rattle.dht_sched.specs.declared.fault.LineFault.TheVariants.{OutOfMemory}
use Rattle.dht_sched.specs.Kinds.{verb_word}
use Rattle.dht_sched.specs.Spelling.{HasBytes, bricks_words, name_words, spaced}

-- a directory: `@` for the root, `@` and a call's number for what the call answered, or its gfid
abbrev pub directory_word : Directory → List ℕ
directory_word Root = codes "@"
directory_word (OfCall k) = codes "@" ++ decimal k
directory_word (OfGfid g) = gfid_text g

abbrev pub call_words : Call Directory → List (List ℕ)
call_words call = verb_word call ∷ directory_word (directory_of call) ∷ name_words (name_of call)

abbrev pub schedule_words : Event → List (List ℕ)
schedule_words (Volume w) = codes "volume" ∷ bricks_words w
schedule_words (Remount w) = codes "remount" ∷ bricks_words w
schedule_words (Called c call) = codes "call" ∷ decimal c ∷ call_words call
schedule_words (Step c) = codes "step" ∷ decimal c ∷ []
schedule_words (Down b) = codes "down" ∷ decimal b ∷ []
schedule_words (Up b) = codes "up" ∷ decimal b ∷ []
schedule_words (Die c) = codes "die" ∷ decimal c ∷ []

-- the call of this verb, directory and name, and where it is none there is no such call
abbrev pub IsCallOf : List ℕ → Directory → Option (List ℕ) → Option (Call Directory) → Type 0
IsCallOf verb directory name None =
    (call : Call Directory) → name_of call ≡ name → verb_word call ≢ verb
IsCallOf verb directory name (Some call) =
    (verb_word call ≡ verb) × (directory_of call ≡ directory) × (name_of call ≡ name)

-- the one line of an event, without its newline
abbrev pub schedule_text : Event → List ℕ
schedule_text e = spaced (schedule_words e)

-- a line has at most 16,384 bytes with its newline
abbrev pub IsShort : List ℕ → Type 0
IsShort text = length text < 16384

-- the weights of a volume
pub record IsScheduledVolume (w : List ℕ) : Type 0 where
  pub some : 1 ≤ length w
  pub few : length w ≤ 32
  pub light : All (λ x. x ≤ 1000) w
  pub heavy : HasWeight w

-- the directories that have a word. Whether there is such a directory is not asked
abbrev pub IsScheduledDirectory : Directory → Type 0
IsScheduledDirectory Root = Unit {0}
IsScheduledDirectory (OfCall k) = k < 2 ^ 64
IsScheduledDirectory (OfGfid g) = g.0 < 2 ^ 128

-- a call of a client, whose name may be any bytes that a line holds
pub record IsScheduledCall (c : ℕ) (call : Call Directory) : Type 0 where
  pub client : c < 2 ^ 64
  pub directory : IsScheduledDirectory (directory_of call)
  pub name : HasBytes (name_of call)
  pub short : IsShort (schedule_text (Called c call))

-- the events that have a line. Whether there is such a client or brick is not asked
abbrev pub IsScheduled : Event → Type 0
IsScheduled (Volume w) = IsScheduledVolume w
IsScheduled (Remount w) = IsScheduledVolume w
IsScheduled (Called c call) = IsScheduledCall c call
IsScheduled (Step c) = c < 2 ^ 64
IsScheduled (Down b) = b < 2 ^ 64
IsScheduled (Up b) = b < 2 ^ 64
IsScheduled (Die c) = c < 2 ^ 64

-- the words of the lines whose reading takes memory: a volume's weights, and a call's name
abbrev pub TakesMemory : List (List ℕ) → Type 0
TakesMemory words = (rest : List (List ℕ))
    × ((words ≡ codes "volume" ∷ rest) ⊎ (words ≡ codes "remount" ∷ rest)
    ⊎ (words ≡ codes "call" ∷ rest))

-- what reading the line of an event gives: the event, where there is memory for it
abbrev pub IsReadOf : Event → Result Event LineFault → Type 0
IsReadOf (Volume w) r = (r ≡ Ok (Volume w)) ⊎ (r ≡ Err OutOfMemory)
IsReadOf (Remount w) r = (r ≡ Ok (Remount w)) ⊎ (r ≡ Err OutOfMemory)
IsReadOf (Called c call) r = (r ≡ Ok (Called c call)) ⊎ (r ≡ Err OutOfMemory)
IsReadOf (Step c) r = r ≡ Ok (Step c)
IsReadOf (Down b) r = r ≡ Ok (Down b)
IsReadOf (Up b) r = r ≡ Ok (Up b)
IsReadOf (Die c) r = r ≡ Ok (Die c)

-- a text with no newline in it, and a short one
pub record IsOneLine (text : List ℕ) : Type 0 where
  pub one : ¬ Contains text 10
  pub short : IsShort text
