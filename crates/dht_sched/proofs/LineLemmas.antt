-- The lines of events: what is read is what was spelled, and a line is of one event.
use Rattle.std.proofs.Common.{◌≡◌, ◌≢◌, ℕ, ◌*◌, ◌==◌, if◌then◌else◌, ◌≤◌, ◌<◌, ◌^◌, false, List, [], ◌∷◌, ◌++◌, inl, inr, length, map, decimal, codes, All, refl, sym, ap, subst, ◌∙◌, arith, lit<, get_or, Bor}
use Rattle.std.specs.Prelude.{Option, Some, None, is_some, MatchOption, Result, Ok, Err, IfOk, IsErrOf}
use Rattle.std.specs.List.{AllByRecursion}
use Rattle.std.specs.Option.{ok_or}
use Rattle.std.proofs.lemmas.Bool.{false≢true}
use Rattle.std.proofs.lemmas.Fmt.{decimal_injective, length-decimal-le}
use Rattle.std.proofs.lemmas.List.Elements.{recursion_from_All}
use Rattle.dht_types.specs.Calls.{directory_of, name_of}
use Rattle.dht_types.specs.declared.calls.Call.{Call}
use Rattle.dht_types.specs.declared.calls.Call.TheVariants.{Lookup, Create, Mkdir, Unlink, Rmdir, Heal}
use Rattle.dht_types.specs.declared.events.Directory.{Directory}
use Rattle.dht_types.specs.declared.events.Event.{Event}
use Rattle.dht_types.specs.declared.events.Event.TheVariants.{Volume, Remount, Call as Called, Step, Down, Up, Die}
use Rattle.dht_sched.specs.declared.fault.LineFault.{LineFault}
use Rattle.dht_sched.specs.declared.fault.LineFault.TheVariants.{Malformed, OutOfMemory}
use Rattle.dht_sched.specs.Reading.{Reads, ReadsUnless}
use Rattle.dht_types.specs.Volume.{HasWeight}
use Rattle.dht_sched.specs.Kinds.{verb_word}
use Rattle.dht_sched.specs.Schedule.{directory_word, call_words, schedule_words, schedule_text, IsShort, IsScheduled, IsScheduledVolume, IsScheduledCall, TakesMemory, IsReadOf, IsOneLine}
use Rattle.dht_sched.specs.Spelling.{HasBytes, bricks_words, name_words, spaced, words_of}
use Rattle.dht_sched.proofs.DirectoryLemmas.{directory_is_word, same_directory}
use Rattle.dht_sched.proofs.NameLemmas.{same_name, name_word}
use Rattle.dht_sched.proofs.NumberLemmas.{decimal_word}
use Rattle.dht_sched.proofs.WordLemmas.{IsWord, words_of-spaced, spaced-words_of, no_newline, room, length-spaced-le}

abbrev IsLight : ℕ → Type 0
IsLight w = w ≤ 1000

-- where a word is no weight, the words are no weights
pub no_weights :
    (taken : List ℕ) (word : List ℕ) (rest : List (List ℕ))
    → ((w : ℕ) → w ≤ 1000 → decimal w ≢ word) → (ws : List ℕ) → AllByRecursion IsLight ws
    → map decimal ws ≢ map decimal taken ++ word ∷ rest
no_weights [] word rest none [] light same = cc same
no_weights [] word rest none (w ∷ ws) light same = none w light.0 (cc same)
no_weights (t ∷ taken) word rest none [] light same = cc same
no_weights (t ∷ taken) word rest none (w ∷ ws) light same = no_weights taken word rest none ws light.1 (cc same)

-- words are of one list of weights
pub same_weights :
    (v w : List ℕ) → AllByRecursion IsLight v → AllByRecursion IsLight w
    → map decimal v ≡ map decimal w → v ≡ w
same_weights [] [] hv hw same = refl
same_weights [] (y ∷ w) hv hw same = absurd (cc same)
same_weights (x ∷ v) [] hv hw same = absurd (cc same)
same_weights (x ∷ v) (y ∷ w) hv hw same =
    let head : x ≡ y = decimal_injective x y (let a = hv.0 in omega arith) (let b = hw.0 in omega arith) (cc same) in
    let tail : v ≡ w = same_weights v w hv.1 hw.1 (cc same) in
    cc (head, tail)

-- ---- the words of an event

length-decimal : (n : ℕ) → n ≤ 1000 → length (decimal n) ≤ 4
length-decimal n light = length-decimal-le 4 n (lit< tt) (omega arith) (omega arith)

length-number : (n : ℕ) → n < 2 ^ 64 → length (decimal n) ≤ 20
length-number n small = length-decimal-le 20 n (lit< tt) (omega arith) small

weight_words : (w : List ℕ) → AllByRecursion IsLight w → AllByRecursion IsWord (map decimal w)
weight_words [] light = tt
weight_words (x ∷ w) light = (decimal_word x (let l = light.0 in omega arith), weight_words w light.1)

verb_is_word : (call : Call Directory) → IsWord (verb_word call)
verb_is_word (Lookup d n) = refl
verb_is_word (Create d n) = refl
verb_is_word (Mkdir d n) = refl
verb_is_word (Unlink d n) = refl
verb_is_word (Rmdir d n) = refl
verb_is_word (Heal d) = refl

names_are_words : (name : Option (List ℕ)) → HasBytes name → AllByRecursion IsWord (name_words name)
names_are_words None h = tt
names_are_words (Some n) h = (name_word n h, tt)

call_words_are :
    (c : ℕ) (call : Call Directory) → IsScheduledCall c call
    → AllByRecursion IsWord (schedule_words (Called c call))
call_words_are c call h = (refl, (decimal_word c h.client, (verb_is_word call, (directory_is_word (directory_of call) h.directory, names_are_words (name_of call) h.name))))

number_words_are :
    (word : List ℕ) (c : ℕ) → IsWord word → c < 2 ^ 64
    → AllByRecursion IsWord (word ∷ decimal c ∷ [])
number_words_are word c h small = (h, (decimal_word c small, tt))

bricks_words_are :
    (word w : List ℕ) → IsWord word → IsScheduledVolume w
    → AllByRecursion IsWord (word ∷ bricks_words w)
bricks_words_are word w first h = let few = h.few in (first, (decimal_word (length w) (omega arith), weight_words w (recursion_from_All IsLight w h.light)))

-- a line has the words of its event
pub words_of_text : (e : Event) → IsScheduled e → words_of (schedule_text e) ≡ schedule_words e
words_of_text (Volume w) h = words_of-spaced (codes "volume") (bricks_words w) (bricks_words_are (codes "volume") w refl h)
words_of_text (Remount w) h = words_of-spaced (codes "remount") (bricks_words w) (bricks_words_are (codes "remount") w refl h)
words_of_text (Called c call) h = words_of-spaced (codes "call") (decimal c ∷ call_words call) (call_words_are c call h)
words_of_text (Step x) h = words_of-spaced (codes "step") (decimal x ∷ []) (number_words_are (codes "step") x refl h)
words_of_text (Down x) h = words_of-spaced (codes "down") (decimal x ∷ []) (number_words_are (codes "down") x refl h)
words_of_text (Up x) h = words_of-spaced (codes "up") (decimal x ∷ []) (number_words_are (codes "up") x refl h)
words_of_text (Die x) h = words_of-spaced (codes "die") (decimal x ∷ []) (number_words_are (codes "die") x refl h)

-- ---- a line is one line

length-weights : (w : List ℕ) → AllByRecursion IsLight w → room (map decimal w) ≤ 5 * length w
length-weights [] light = omega arith
length-weights (x ∷ w) light = let first = length-decimal x light.0 in let others = length-weights w light.1 in omega arith

one_line_of :
    (words : List (List ℕ)) → AllByRecursion IsWord words → room words < 16384
    → IsOneLine (spaced words)
one_line_of words h few = record { one = no_newline words h; short = (let size = length-spaced-le words in omega arith) }

number_line :
    (word : List ℕ) (c : ℕ) → IsWord word → length word ≤ 4 → c < 2 ^ 64
    → IsOneLine (spaced (word ∷ decimal c ∷ []))
number_line word c h short small = let digits = length-number c small in one_line_of (word ∷ decimal c ∷ []) (number_words_are word c h small) (omega arith)

bricks_line :
    (word w : List ℕ) → IsWord word → length word ≤ 7 → IsScheduledVolume w
    → IsOneLine (spaced (word ∷ bricks_words w))
bricks_line word w first short h =
    let few = h.few in
    let bricks = length-decimal (length w) (omega arith) in
    let weights = length-weights w (recursion_from_All IsLight w h.light) in
    one_line_of (word ∷ bricks_words w) (bricks_words_are word w first h) (omega arith)

pub event_line : (e : Event) → IsScheduled e → IsOneLine (schedule_text e)
event_line (Volume w) h = bricks_line (codes "volume") w refl (omega arith) h
event_line (Remount w) h = bricks_line (codes "remount") w refl (omega arith) h
event_line (Called c call) h = record { one = no_newline (schedule_words (Called c call)) (call_words_are c call h); short = h.short }
event_line (Step x) h = number_line (codes "step") x refl (omega arith) h
event_line (Down x) h = number_line (codes "down") x refl (omega arith) h
event_line (Up x) h = number_line (codes "up") x refl (omega arith) h
event_line (Die x) h = number_line (codes "die") x refl (omega arith) h

-- ---- a line is of one event

-- the first letter of a word; that of the first word, and the second
abbrev letter : List ℕ → ℕ
letter word = get_or word 0 0

abbrev kind : List (List ℕ) → ℕ
kind [] = 0
kind (word ∷ words) = letter word

abbrev second : List (List ℕ) → ℕ
second [] = 0
second (word ∷ words) = get_or word 1 0

-- a call is told by its verb's first letter, its directory and its name
call_told : ℕ → Directory → Option (List ℕ) → Call Directory
call_told first d None = Heal d
call_told first d (Some n) =
    if first == 108 then Lookup d n
    else if first == 99 then Create d n
    else if first == 109 then Mkdir d n
    else if first == 117 then Unlink d n
    else Rmdir d n

told :
    (call : Call Directory)
    → call_told (letter (verb_word call)) (directory_of call) (name_of call) ≡ call
unfolding call_told
told (Lookup d n) = refl
told (Create d n) = refl
told (Mkdir d n) = refl
told (Unlink d n) = refl
told (Rmdir d n) = refl
told (Heal d) = refl

same_call :
    (a b : Call Directory) → verb_word a ≡ verb_word b → directory_of a ≡ directory_of b
    → name_of a ≡ name_of b → a ≡ b
same_call a b verb directory name =
    sym (told a) ∙ (λ i. call_told (letter (verb i)) (directory i) (name i)) ∙ told b

same_names : (a b : Option (List ℕ)) → HasBytes a → HasBytes b → name_words a ≡ name_words b → a ≡ b
same_names None None ha hb same = refl
same_names None (Some n) ha hb same = absurd (cc same)
same_names (Some m) None ha hb same = absurd (cc same)
same_names (Some m) (Some n) ha hb same = ap Some (same_name m n ha hb (cc same))

call_by_words :
    (c : ℕ) (x : Call Directory) (e : ℕ) (y : Call Directory) → IsScheduledCall c x
    → IsScheduledCall e y → decimal c ∷ call_words x ≡ decimal e ∷ call_words y → (c ≡ e) × (x ≡ y)
call_by_words c x e y hx hy same =
    let directory = same_directory (directory_of x) (directory_of y) hx.directory hy.directory (cc same) in
    let name = same_names (name_of x) (name_of y) hx.name hy.name (cc same) in
    (decimal_injective c e hx.client hy.client (cc same), same_call x y (cc same) directory name)

same_bricks :
    (v w : List ℕ) → IsScheduledVolume v → IsScheduledVolume w → map decimal v ≡ map decimal w
    → v ≡ w
same_bricks v w hv hw same = same_weights v w (recursion_from_All IsLight v hv.light) (recursion_from_All IsLight w hw.light) same

pub same_event :
    (a b : Event) → IsScheduled a → IsScheduled b → schedule_words a ≡ schedule_words b → a ≡ b
same_event (Volume v) (Volume w) ha hb same = ap Volume (same_bricks v w ha hb (cc same))
same_event (Volume x) (Remount y) ha hb same = absurd (let letters : 118 ≡ 114 = ap kind same in omega arith)
same_event (Volume x) (Called y ycall) ha hb same = absurd (let letters : 118 ≡ 99 = ap kind same in omega arith)
same_event (Volume x) (Step y) ha hb same = absurd (let letters : 118 ≡ 115 = ap kind same in omega arith)
same_event (Volume x) (Down y) ha hb same = absurd (let letters : 118 ≡ 100 = ap kind same in omega arith)
same_event (Volume x) (Up y) ha hb same = absurd (let letters : 118 ≡ 117 = ap kind same in omega arith)
same_event (Volume x) (Die y) ha hb same = absurd (let letters : 118 ≡ 100 = ap kind same in omega arith)
same_event (Remount x) (Volume y) ha hb same = absurd (let letters : 114 ≡ 118 = ap kind same in omega arith)
same_event (Remount v) (Remount w) ha hb same = ap Remount (same_bricks v w ha hb (cc same))
same_event (Remount x) (Called y ycall) ha hb same = absurd (let letters : 114 ≡ 99 = ap kind same in omega arith)
same_event (Remount x) (Step y) ha hb same = absurd (let letters : 114 ≡ 115 = ap kind same in omega arith)
same_event (Remount x) (Down y) ha hb same = absurd (let letters : 114 ≡ 100 = ap kind same in omega arith)
same_event (Remount x) (Up y) ha hb same = absurd (let letters : 114 ≡ 117 = ap kind same in omega arith)
same_event (Remount x) (Die y) ha hb same = absurd (let letters : 114 ≡ 100 = ap kind same in omega arith)
same_event (Called x xcall) (Volume y) ha hb same = absurd (let letters : 99 ≡ 118 = ap kind same in omega arith)
same_event (Called x xcall) (Remount y) ha hb same = absurd (let letters : 99 ≡ 114 = ap kind same in omega arith)
same_event (Called b x) (Called c y) ha hb same = let p = call_by_words b x c y ha hb (cc same) in let same_client = p.0 in let same_words = p.1 in cc
same_event (Called x xcall) (Step y) ha hb same = absurd (let letters : 99 ≡ 115 = ap kind same in omega arith)
same_event (Called x xcall) (Down y) ha hb same = absurd (let letters : 99 ≡ 100 = ap kind same in omega arith)
same_event (Called x xcall) (Up y) ha hb same = absurd (let letters : 99 ≡ 117 = ap kind same in omega arith)
same_event (Called x xcall) (Die y) ha hb same = absurd (let letters : 99 ≡ 100 = ap kind same in omega arith)
same_event (Step x) (Volume y) ha hb same = absurd (let letters : 115 ≡ 118 = ap kind same in omega arith)
same_event (Step x) (Remount y) ha hb same = absurd (let letters : 115 ≡ 114 = ap kind same in omega arith)
same_event (Step x) (Called y ycall) ha hb same = absurd (let letters : 115 ≡ 99 = ap kind same in omega arith)
same_event (Step x) (Step y) ha hb same = ap Step (decimal_injective x y ha hb (cc same))
same_event (Step x) (Down y) ha hb same = absurd (let letters : 115 ≡ 100 = ap kind same in omega arith)
same_event (Step x) (Up y) ha hb same = absurd (let letters : 115 ≡ 117 = ap kind same in omega arith)
same_event (Step x) (Die y) ha hb same = absurd (let letters : 115 ≡ 100 = ap kind same in omega arith)
same_event (Down x) (Volume y) ha hb same = absurd (let letters : 100 ≡ 118 = ap kind same in omega arith)
same_event (Down x) (Remount y) ha hb same = absurd (let letters : 100 ≡ 114 = ap kind same in omega arith)
same_event (Down x) (Called y ycall) ha hb same = absurd (let letters : 100 ≡ 99 = ap kind same in omega arith)
same_event (Down x) (Step y) ha hb same = absurd (let letters : 100 ≡ 115 = ap kind same in omega arith)
same_event (Down x) (Down y) ha hb same = ap Down (decimal_injective x y ha hb (cc same))
same_event (Down x) (Up y) ha hb same = absurd (let letters : 100 ≡ 117 = ap kind same in omega arith)
same_event (Down x) (Die y) ha hb same = absurd (let letters : 111 ≡ 105 = ap second same in omega arith)
same_event (Up x) (Volume y) ha hb same = absurd (let letters : 117 ≡ 118 = ap kind same in omega arith)
same_event (Up x) (Remount y) ha hb same = absurd (let letters : 117 ≡ 114 = ap kind same in omega arith)
same_event (Up x) (Called y ycall) ha hb same = absurd (let letters : 117 ≡ 99 = ap kind same in omega arith)
same_event (Up x) (Step y) ha hb same = absurd (let letters : 117 ≡ 115 = ap kind same in omega arith)
same_event (Up x) (Down y) ha hb same = absurd (let letters : 117 ≡ 100 = ap kind same in omega arith)
same_event (Up x) (Up y) ha hb same = ap Up (decimal_injective x y ha hb (cc same))
same_event (Up x) (Die y) ha hb same = absurd (let letters : 117 ≡ 100 = ap kind same in omega arith)
same_event (Die x) (Volume y) ha hb same = absurd (let letters : 100 ≡ 118 = ap kind same in omega arith)
same_event (Die x) (Remount y) ha hb same = absurd (let letters : 100 ≡ 114 = ap kind same in omega arith)
same_event (Die x) (Called y ycall) ha hb same = absurd (let letters : 100 ≡ 99 = ap kind same in omega arith)
same_event (Die x) (Step y) ha hb same = absurd (let letters : 100 ≡ 115 = ap kind same in omega arith)
same_event (Die x) (Down y) ha hb same = absurd (let letters : 105 ≡ 111 = ap second same in omega arith)
same_event (Die x) (Up y) ha hb same = absurd (let letters : 100 ≡ 117 = ap kind same in omega arith)
same_event (Die x) (Die y) ha hb same = ap Die (decimal_injective x y ha hb (cc same))

-- ---- what a line's words tell

-- a line's words are those of an event just where the line is its text
line_words :
    (line : List ℕ) (e : Event) → IsScheduled e → line ≡ schedule_text e
    → schedule_words e ≡ words_of line
line_words line e h same = sym (words_of_text e h) ∙ ap words_of (sym same)

pub read_text :
    (line : List ℕ) (r : Result Event LineFault)
    → ReadsUnless schedule_words IsScheduled (words_of line) r
    → IfOk r (λ e. line ≡ schedule_text e)
read_text line (Ok e) h = sym (spaced-words_of line) ∙ ap spaced (sym h.1)
read_text line (Err f) h = tt

pub read_malformed :
    (line : List ℕ) (r : Result Event LineFault)
    → ReadsUnless schedule_words IsScheduled (words_of line) r → IsErrOf r Malformed → (e : Event)
    → IsScheduled e → line ≢ schedule_text e
read_malformed line r h bad e fits same =
    let none = subst (λ (x : Result Event LineFault). ReadsUnless schedule_words IsScheduled (words_of line) x) bad h in
    none e fits (line_words line e fits same)

out_of_memory : (e : Event) → TakesMemory (schedule_words e) → IsReadOf e (Err OutOfMemory)
out_of_memory (Volume w) h = inr refl
out_of_memory (Remount w) h = inr refl
out_of_memory (Called c call) h = inr refl
out_of_memory (Step c) (rest, inl same) = absurd (let letters : 115 ≡ 118 = ap kind same in omega arith)
out_of_memory (Step c) (rest, inr (inl same)) = absurd (let letters : 115 ≡ 114 = ap kind same in omega arith)
out_of_memory (Step c) (rest, inr (inr same)) = absurd (let letters : 115 ≡ 99 = ap kind same in omega arith)
out_of_memory (Down b) (rest, inl same) = absurd (let letters : 100 ≡ 118 = ap kind same in omega arith)
out_of_memory (Down b) (rest, inr (inl same)) = absurd (let letters : 100 ≡ 114 = ap kind same in omega arith)
out_of_memory (Down b) (rest, inr (inr same)) = absurd (let letters : 100 ≡ 99 = ap kind same in omega arith)
out_of_memory (Up b) (rest, inl same) = absurd (let letters : 117 ≡ 118 = ap kind same in omega arith)
out_of_memory (Up b) (rest, inr (inl same)) = absurd (let letters : 117 ≡ 114 = ap kind same in omega arith)
out_of_memory (Up b) (rest, inr (inr same)) = absurd (let letters : 117 ≡ 99 = ap kind same in omega arith)
out_of_memory (Die c) (rest, inl same) = absurd (let letters : 100 ≡ 118 = ap kind same in omega arith)
out_of_memory (Die c) (rest, inr (inl same)) = absurd (let letters : 100 ≡ 114 = ap kind same in omega arith)
out_of_memory (Die c) (rest, inr (inr same)) = absurd (let letters : 100 ≡ 99 = ap kind same in omega arith)

is_read : (e : Event) → IsReadOf e (Ok e)
is_read (Volume w) = inl refl
is_read (Remount w) = inl refl
is_read (Called c call) = inl refl
is_read (Step c) = refl
is_read (Down b) = refl
is_read (Up b) = refl
is_read (Die c) = refl

pub read_only :
    (line : List ℕ) (r : Result Event LineFault)
    → ReadsUnless schedule_words IsScheduled (words_of line) r
    → (IsErrOf r OutOfMemory → TakesMemory (words_of line)) → (e : Event) → IsScheduled e
    → line ≡ schedule_text e → IsReadOf e r
read_only line (Ok f) h memory e fits same =
    let f_is : e ≡ f = same_event e f fits h.0 (line_words line e fits same ∙ sym h.1) in
    subst (λ (x : Event). IsReadOf e (Ok x)) f_is (is_read e)
read_only line (Err Malformed) h memory e fits same = absurd (h e fits (line_words line e fits same))
read_only line (Err OutOfMemory) h memory e fits same = out_of_memory e (subst TakesMemory (sym (line_words line e fits same)) (memory refl))

-- a line that is too long
pub too_long :
    (line : List ℕ) → 16384 ≤ length line → (e : Event) → IsScheduled e → line ≢ schedule_text e
too_long line long e h same = let short = (event_line e h).short in let size = ap length same in omega arith

pub short_words :
    (line : List ℕ) (words : List (List ℕ)) → words ≡ words_of line → length line < 16384
    → IsShort (spaced words)
short_words line words are short = let size = ap length (ap spaced are ∙ spaced-words_of line) in omega arith

-- ---- the parts of lines

-- the words behind the first one
pub kind_words :
    (words rest : List (List ℕ)) (kind word : List ℕ) → words ≡ kind ∷ rest → kind ≡ word
    → words ≡ word ∷ rest
kind_words words rest kind word starts is = cc

pub reads_or :
    (words : List (List ℕ)) (r : Option Event) (result : Result Event LineFault)
    → result ≡ ok_or r Malformed → Reads schedule_words IsScheduled words r
    → ReadsUnless schedule_words IsScheduled words result
reads_or words None result is h = rw is h
reads_or words (Some e) result is h = rw is h

-- words that are no call's
pub no_call :
    (words : List (List ℕ))
    → ((c : ℕ) (call : Call Directory) → IsScheduledCall c call
    → words ≢ decimal c ∷ call_words call)
    → (e : Event) → IsScheduled e → schedule_words e ≢ codes "call" ∷ words
no_call words none (Volume w) h same = absurd (let letters : 118 ≡ 99 = ap kind same in omega arith)
no_call words none (Remount w) h same = absurd (let letters : 114 ≡ 99 = ap kind same in omega arith)
no_call words none (Called c call) h same = none c call h (cc same)
no_call words none (Step c) h same = absurd (let letters : 115 ≡ 99 = ap kind same in omega arith)
no_call words none (Down b) h same = absurd (let letters : 100 ≡ 99 = ap kind same in omega arith)
no_call words none (Up b) h same = absurd (let letters : 117 ≡ 99 = ap kind same in omega arith)
no_call words none (Die c) h same = absurd (let letters : 100 ≡ 99 = ap kind same in omega arith)

-- a word that is no verb with a name
pub no_verb_with_name :
    (verb name : List ℕ) → verb ≢ codes "lookup" → verb ≢ codes "create" → verb ≢ codes "mkdir"
    → verb ≢ codes "unlink" → verb ≢ codes "rmdir"
    → (call : Call Directory) → name_of call ≡ Some name → verb_word call ≢ verb
no_verb_with_name verb name lookup create mkdir unlink rmdir (Lookup d n) has same = lookup (sym same)
no_verb_with_name verb name lookup create mkdir unlink rmdir (Create d n) has same = create (sym same)
no_verb_with_name verb name lookup create mkdir unlink rmdir (Mkdir d n) has same = mkdir (sym same)
no_verb_with_name verb name lookup create mkdir unlink rmdir (Unlink d n) has same = unlink (sym same)
no_verb_with_name verb name lookup create mkdir unlink rmdir (Rmdir d n) has same = rmdir (sym same)
no_verb_with_name verb name lookup create mkdir unlink rmdir (Heal d) has same = cc has

-- words whose verb is none
pub no_verb :
    (words rest others left : List (List ℕ)) (verb : List ℕ) (client : ℕ) (directory : Directory)
    (name : Option (List ℕ))
    → words ≡ decimal client ∷ rest → rest ≡ verb ∷ others → others ≡ directory_word directory ∷ left → HasBytes name → name_words name ≡ left
    → ((call : Call Directory) → name_of call ≡ name → verb_word call ≢ verb) → (e : Event) → IsScheduled e → schedule_words e ≢ codes "call" ∷ words
no_verb words rest others left verb client directory name first second third has fourth none =
    no_call words (λ c call h same.
    let all : decimal client ∷ verb ∷ directory_word directory ∷ name_words name ≡ decimal c ∷ call_words call =
    ap (λ w. decimal client ∷ verb ∷ directory_word directory ∷ w) fourth ∙ ap (λ w. decimal client ∷ verb ∷ w) (sym third) ∙ ap (λ w. decimal client ∷ w) (sym second) ∙ sym first ∙ same in
    let named : name_of call ≡ name = same_names (name_of call) name h.name has (cc all) in
    none call named (cc all))

-- where no item came, none was left
pub none_left :
    (words rest : List (List ℕ)) (o : Option (Bor (List ℕ)))
    → MatchOption o ((words ≡ []) × (rest ≡ [])) (λ x. words ≡ x.now ∷ rest) → is_some o ≡ false
    → words ≡ []
none_left words rest None h e = h.0
none_left words rest (Some x) h e = absurd (false≢true (sym e))

-- weights that are none of a volume
pub no_bricks :
    (words others : List (List ℕ)) (bricks : ℕ) (word : List ℕ) (w : List ℕ) → words ≡ word ∷ others
    → bricks < 2 ^ 64 → decimal bricks ≡ word → All IsLight w → map decimal w ≡ others
    → (bricks ≡ length w → (1 ≤ length w) × (length w ≤ 32) × HasWeight w → ⊥) → (v : List ℕ) → IsScheduledVolume v → bricks_words v ≢ words
no_bricks words others bricks word w e small text light weights none v h same =
    let few = h.few in
    let v_is : v ≡ w = same_weights v w (recursion_from_All IsLight v h.light) (recursion_from_All IsLight w light) (cc (same, e, weights)) in
    let size : length v ≡ bricks = decimal_injective (length v) bricks (omega arith) small (cc (same, e, text)) in
    none (sym size ∙ ap length v_is) (subst (λ (x : List ℕ). (1 ≤ length x) × (length x ≤ 32) × HasWeight x) v_is (h.some, few, h.heavy))

-- words that are no volume's, and no remount's
abbrev IsNoBricks : List (List ℕ) → Type 0
IsNoBricks words = (v : List ℕ) → IsScheduledVolume v → bricks_words v ≢ words

pub no_volume :
    (words : List (List ℕ)) → IsNoBricks words → (e : Event) → IsScheduled e
    → schedule_words e ≢ codes "volume" ∷ words
no_volume words none (Volume w) h same = none w h (cc same)
no_volume words none (Remount w) h same = absurd (let letters : 114 ≡ 118 = ap kind same in omega arith)
no_volume words none (Called c call) h same = absurd (let letters : 99 ≡ 118 = ap kind same in omega arith)
no_volume words none (Step c) h same = absurd (let letters : 115 ≡ 118 = ap kind same in omega arith)
no_volume words none (Down b) h same = absurd (let letters : 100 ≡ 118 = ap kind same in omega arith)
no_volume words none (Up b) h same = absurd (let letters : 117 ≡ 118 = ap kind same in omega arith)
no_volume words none (Die c) h same = absurd (let letters : 100 ≡ 118 = ap kind same in omega arith)

pub no_remount :
    (words : List (List ℕ)) → IsNoBricks words → (e : Event) → IsScheduled e
    → schedule_words e ≢ codes "remount" ∷ words
no_remount words none (Volume w) h same = absurd (let letters : 118 ≡ 114 = ap kind same in omega arith)
no_remount words none (Remount w) h same = none w h (cc same)
no_remount words none (Called c call) h same = absurd (let letters : 99 ≡ 114 = ap kind same in omega arith)
no_remount words none (Step c) h same = absurd (let letters : 115 ≡ 114 = ap kind same in omega arith)
no_remount words none (Down b) h same = absurd (let letters : 100 ≡ 114 = ap kind same in omega arith)
no_remount words none (Up b) h same = absurd (let letters : 117 ≡ 114 = ap kind same in omega arith)
no_remount words none (Die c) h same = absurd (let letters : 100 ≡ 114 = ap kind same in omega arith)

-- words whose first is none of an event's
pub no_first :
    (words rest : List (List ℕ)) (kind : List ℕ) → words ≡ kind ∷ rest → kind ≢ codes "volume"
    → kind ≢ codes "remount" → kind ≢ codes "call" → kind ≢ codes "step" → kind ≢ codes "down"
    → kind ≢ codes "up" → kind ≢ codes "die"
    → (e : Event) → IsScheduled e → schedule_words e ≢ words
no_first words rest kind starts volume remount call step down up die (Volume w) h same = volume (cc (same, starts))
no_first words rest kind starts volume remount call step down up die (Remount w) h same = remount (cc (same, starts))
no_first words rest kind starts volume remount call step down up die (Called c x) h same = call (cc (same, starts))
no_first words rest kind starts volume remount call step down up die (Step c) h same = step (cc (same, starts))
no_first words rest kind starts volume remount call step down up die (Down b) h same = down (cc (same, starts))
no_first words rest kind starts volume remount call step down up die (Up b) h same = up (cc (same, starts))
no_first words rest kind starts volume remount call step down up die (Die c) h same = die (cc (same, starts))
