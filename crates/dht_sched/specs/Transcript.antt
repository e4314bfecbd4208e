-- The lines of a transcript, each with its newline.
use Rattle.std.specs.Prelude.{ℕ, Option, Some, None, List, [], ◌∷◌, ◌++◌, codes, decimal}
use Rattle.std.specs.List.{flat_map}
use Rattle.dht_types.specs.Calls.{directory_of, name_of}
use Rattle.dht_types.specs.Errno.{errno_word}
use Rattle.dht_types.specs.Text.{gfid_text}
use Rattle.dht_types.specs.declared.identifiers.Gfid.{Gfid}
use Rattle.dht_types.specs.declared.calls.Call.{Call}
use Rattle.dht_types.specs.declared.calls.Answer.{Answer}
use Rattle.dht_types.specs.declared.calls.Answer.TheVariants.{File, Dir, Made, Done, Fault}
use Rattle.dht_types.specs.declared.calls.TreeStep.{TreeStep}
use Rattle.dht_types.specs.declared.calls.TreeStep.TheVariants.{AddFile, AddDir, RemoveFile, RemoveDir}
use Rattle.dht_types.specs.declared.lines.Cause.{Cause}
use Rattle.dht_types.specs.declared.lines.Cause.TheVariants.{Unknown, Dead, Busy, Idle, Answer as OfAnswer, Open, Fewer}
use Rattle.dht_types.specs.declared.lines.Line.{Line}
use Rattle.dht_types.specs.declared.lines.Line.TheVariants.{Volume, Remounted, Called, Stepped, Waited, Tree, Answered, WentDown, CameUp, Died, Refused}
use Rattle.dht_types.specs.declared.lines.DumpLine.{DumpLine}
use Rattle.dht_sched.specs.Dump.{dump_words}
use Rattle.dht_sched.specs.Kinds.{verb_word, request_word, reply_word}
use Rattle.dht_sched.specs.Spelling.{bricks_words, name_words, spaced, spelled}

-- the line of these words
abbrev pub text_of : List (List ℕ) → List ℕ
text_of words = spaced words ++ 10 ∷ []

abbrev pub called_words : Call Gfid → List (List ℕ)
called_words call = verb_word call ∷ gfid_text (directory_of call) ∷ name_words (name_of call)

abbrev pub tree_words : TreeStep → List (List ℕ)
tree_words (AddFile d n f) = codes "add-file" ∷ gfid_text d ∷ spelled n ∷ gfid_text f ∷ []
tree_words (AddDir d n g) = codes "add-dir" ∷ gfid_text d ∷ spelled n ∷ gfid_text g ∷ []
tree_words (RemoveFile d n) = codes "remove-file" ∷ gfid_text d ∷ spelled n ∷ []
tree_words (RemoveDir d n) = codes "remove-dir" ∷ gfid_text d ∷ spelled n ∷ []

-- the point of an answer, where it has one
abbrev pub point_words : Option ℕ → List (List ℕ)
point_words None = []
point_words (Some line) = codes "at" ∷ decimal line ∷ []

abbrev pub answer_words : Answer → List (List ℕ)
answer_words (File f) = codes "file" ∷ gfid_text f ∷ []
answer_words (Dir g) = codes "dir" ∷ gfid_text g ∷ []
answer_words (Made f) = codes "made" ∷ gfid_text f ∷ []
answer_words Done = codes "ok" ∷ []
answer_words (Fault error) = errno_word error ∷ []

abbrev pub cause_word : Cause → List ℕ
cause_word Unknown = codes "unknown"
cause_word Dead = codes "dead"
cause_word Busy = codes "busy"
cause_word Idle = codes "idle"
cause_word OfAnswer = codes "answer"
cause_word Open = codes "open"
cause_word Fewer = codes "fewer"

abbrev pub line_words : Line → List (List ℕ)
line_words (Volume w) = codes "volume" ∷ bricks_words w
line_words (Remounted w) = codes "remount" ∷ bricks_words w
line_words (Called k c call) = codes "call" ∷ decimal k.0 ∷ decimal c.0 ∷ called_words call
line_words (Stepped k c b q r) =
    codes "step" ∷ decimal k.0 ∷ decimal c.0 ∷ decimal b.0 ∷ request_word q ∷ reply_word r ∷ []
line_words (Waited k c b holder) =
    codes "wait" ∷ decimal k.0 ∷ decimal c.0 ∷ decimal b.0 ∷ decimal holder.0 ∷ []
line_words (Tree k step) = codes "tree" ∷ decimal k.0 ∷ tree_words step
line_words (Answered k c point a) =
    codes "answer" ∷ decimal k.0 ∷ decimal c.0 ∷ (point_words point ++ answer_words a)
line_words (WentDown b) = codes "down" ∷ decimal b.0 ∷ []
line_words (CameUp b) = codes "up" ∷ decimal b.0 ∷ []
line_words (Died c) = codes "die" ∷ decimal c.0 ∷ []
line_words (Refused n cause) = codes "refused" ∷ decimal n ∷ cause_word cause ∷ []

unfoldable pub line_text : Line → List ℕ
line_text line = text_of (line_words line)

unfoldable pub lines_text : List Line → List ℕ
lines_text lines = flat_map line_text lines

-- ---- what the bricks contain

unfoldable pub dump_text : DumpLine → List ℕ
dump_text line = text_of (dump_words line)

unfoldable pub dump_lines_text : List DumpLine → List ℕ
dump_lines_text lines = flat_map dump_text lines

-- ---- the last line of a run that ends early

-- the schedule's line of this number is malformed
unfoldable pub malformed_text : ℕ → List ℕ
malformed_text n = text_of (codes "malformed" ∷ decimal n ∷ [])

-- the run has had all its steps
unfoldable pub limit_text : List ℕ
limit_text = text_of (codes "limit" ∷ [])

-- what the program can be asked for
unfoldable pub usage_text : List ℕ
usage_text = codes "usage: dhtvol replay, serve, hash, layout, bulk" ++ 10 ∷ []
