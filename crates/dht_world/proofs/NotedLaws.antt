-- Journals note the slots of tree lines, also when they have grown.
use Rattle.std.proofs.Common.{◌≡◌, ◌+◌, ◌-◌, ℕ, zero, suc, Bool, false, List, [], ◌∷◌, ◌++◌, refl, sym, ap, ◌∙◌, length, length-append, arith}
use Rattle.std.specs.Prelude.{Option, Some, None, map, option_map, nat_eq, slice_get, if◌then◌else◌}
use Rattle.dht_types.specs.Gfid.{Entry}
use Rattle.dht_types.specs.Put.{put}
use Rattle.dht_types.proofs.PutLaws.{put_elim, exact_nat}
use Rattle.dht_types.specs.History.{History, Act, acts_after, is_down, with_line, with_lines}
use Rattle.dht_types.specs.declared.lines.Line.{Line}
use Rattle.dht_types.specs.declared.lines.Line.TheVariants.{Tree}
use Rattle.dht_brick.specs.Bricks.{unless_down}
use Rattle.dht_brick.specs.declared.journal.JournalEntry.{JournalEntry}
use Rattle.dht_brick.specs.declared.replies.Reply.{Reply}
use Rattle.dht_brick.specs.declared.replies.Reply.TheVariants.{Down}
use Rattle.dht_world.specs.Bricks.{IsNoted, AreNoted, last_entry}
use Rattle.dht_world.proofs.BrickLaws.{length_mapped}

-- what these journals note stands in those at its place
abbrev pub Extends : (js ks : ℕ → List JournalEntry) → Type 0
Extends js ks = (b i : ℕ) (e : JournalEntry) → slice_get (js b) i ≡ Some e → slice_get (ks b) i ≡ Some e

get_more :
    {A : Type 0} (xs ys : List A) (i : ℕ) (x : A) → slice_get xs i ≡ Some x
    → slice_get (xs ++ ys) i ≡ Some x
get_more [] ys i x e = absurd (let z : None ≡ Some x = e in cc)
get_more (y ∷ xs) ys zero x e = e
get_more (y ∷ xs) ys (suc i) x e = get_more xs ys i x e

get_end : {A : Type 0} (xs : List A) (x : A) → slice_get (xs ++ x ∷ []) (length xs) ≡ Some x
get_end [] x = refl
get_end (y ∷ xs) x = get_end xs x

one_grown :
    (r : Reply) (es : List JournalEntry) (e : JournalEntry) (i : ℕ) (x : JournalEntry)
    → slice_get es i ≡ Some x → slice_get (unless_down r es (es ++ e ∷ [])) i ≡ Some x
one_grown Down es e i x h = h
one_grown r es e i x h = get_more es (e ∷ []) i x h

-- a brick noted what it answered
pub extends_served :
    (js ks : ℕ → List JournalEntry) (at : ℕ) (r : Reply) (e : JournalEntry)
    → ks ≡ put nat_eq js at (unless_down r (js at) (js at ++ e ∷ [])) → Extends js ks
extends_served js ks at r e told b i x h =
    ap (λ (f : ℕ → List JournalEntry). slice_get (f b) i) told
    ∙ put_elim (λ (es : List JournalEntry). slice_get es i ≡ Some x) nat_eq exact_nat js at (unless_down r (js at) (js at ++ e ∷ [])) b
    (λ q. one_grown r (js at) e i x (ap (λ (m : ℕ). slice_get (js m) i) (sym q) ∙ h)) (λ ne. h)

slot_on :
    (o p : Option JournalEntry) (slot : Entry) → ((e : JournalEntry) → o ≡ Some e → p ≡ Some e)
    → option_map (λ e. (e.gfid, e.name)) o ≡ Some slot
    → option_map (λ e. (e.gfid, e.name)) p ≡ Some slot
slot_on None p slot ext h = absurd (let z : None ≡ Some slot = h in cc)
slot_on (Some e) p slot ext h = ap (option_map (λ e. (e.gfid, e.name))) (ext e refl) ∙ h

one_noted :
    (js ks : ℕ → List JournalEntry) (s : History) (line : Line) → Extends js ks → IsNoted js s line
    → IsNoted ks s line
one_noted js ks s (Tree k step) ext h = λ w due. slot_on (last_entry js s w.brick) (last_entry ks s w.brick) _ (ext w.brick (length (s.acts w.brick) - 1)) (h w due)
one_noted js ks s line ext h = h

pub noted_on :
    (js ks : ℕ → List JournalEntry) (s : History) (lines : List Line) → Extends js ks
    → AreNoted js s lines → AreNoted ks s lines
noted_on js ks s [] ext h = tt
noted_on js ks s (x ∷ xs) ext h = (one_noted js ks s x ext h.0, noted_on js ks (with_line s x) xs ext h.1)

pub noted_append :
    (js : ℕ → List JournalEntry) (s : History) (xs ys : List Line) → AreNoted js s xs
    → AreNoted js (with_lines s xs) ys → AreNoted js s (xs ++ ys)
noted_append js s [] ys h k = k
noted_append js s (x ∷ xs) ys h k = (h.0, noted_append js (with_line s x) xs ys h.1 k)

-- the entry of the act that was told last
pub last_is :
    (act_of : JournalEntry → Act) (es : List JournalEntry) (acts : List Act) (e : JournalEntry)
    (x : Act)
    → map act_of es ≡ acts → is_down x.reply ≡ false
    → slice_get (es ++ e ∷ []) (length (acts_after acts x) - 1) ≡ Some e
last_is act_of es acts e x same up =
    let grown : acts_after acts x ≡ acts ++ x ∷ [] = ap (λ (b : Bool). if b then acts else acts ++ x ∷ []) up in
    let count : length (acts_after acts x) ≡ length acts + 1 = ap length grown ∙ length-append acts (x ∷ []) in
    let before : length es ≡ length acts = sym (length_mapped act_of es) ∙ ap length same in
    ap (slice_get (es ++ e ∷ [])) (let z : length (acts_after acts x) - 1 ≡ length es = omega arith in z) ∙ get_end es e
