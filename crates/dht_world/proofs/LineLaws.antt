-- One more line, or several: what stays legal and in time, and how journals and lists grow.
use Rattle.std.proofs.Common.{◌≡◌, ◌≢◌, ◌⊎◌, ℕ, Bool, true, false, List, [], ◌∷◌, ◌++◌, refl, sym, ap, ◌∙◌, inl, inr}
use Rattle.std.specs.Prelude.{None, nat_eq, if◌then◌else◌, map}
use Rattle.dht_types.specs.Put.{put}
use Rattle.dht_types.proofs.PutLaws.{put_elim, put_same, put_other, exact_nat}
use Rattle.dht_types.specs.Gfid.{Entry}
use Rattle.dht_types.specs.History.{History, with_line, with_lines, start, history_of, LegalFrom, Legal, is_change, is_dir_change}
use Rattle.dht_types.proofs.HistoryLaws.{lines_append, legal_append}
use Rattle.dht_types.specs.declared.lines.Line.{Line}
use Rattle.dht_brick.specs.declared.journal.JournalEntry.{JournalEntry}
use Rattle.dht_world.specs.Bricks.{act_of, changed_slots, copied_slots, IsSublist}
use Rattle.dht_world.specs.Following.{InTimeFrom}

pub nat_cases : (x y : ℕ) → (x ≡ y) ⊎ (x ≢ y)
nat_cases x y = by (nat_eq x y) refl
  where
    by : (v : Bool) → nat_eq x y ≡ v → (x ≡ y) ⊎ (x ≢ y)
    by true e = inl ((exact_nat x y).0 e)
    by false e = inr (λ h. let k : true ≡ false = sym ((exact_nat x y).1 h) ∙ e in cc)

pub in_time_append :
    (s : History) (xs ys : List Line) → InTimeFrom s xs → InTimeFrom (with_lines s xs) ys
    → InTimeFrom s (xs ++ ys)
in_time_append s [] ys l k = k
in_time_append s (x ∷ xs) ys l k = (l.0, in_time_append (with_line s x) xs ys l.1 k)

-- lines that may come, after which no tree line is owed
pub legal_lines :
    (past lines : List Line) → Legal past → LegalFrom (history_of past) lines
    → (with_lines (history_of past) lines).owed ≡ None → Legal (past ++ lines)
legal_lines past lines l k e = record {
  from = legal_append start past lines l.from k;
  whole = ap (λ (s : History). s.owed) (lines_append start past lines) ∙ e;
}

map_more :
    {A B : Type 0} (f : A → B) (xs : List A) (x : A) → map f (xs ++ x ∷ []) ≡ map f xs ++ f x ∷ []
map_more f [] x = refl
map_more f (y ∷ ys) x = ap (λ zs. f y ∷ zs) (map_more f ys x)

pub acts_more :
    (es : List JournalEntry) (e : JournalEntry)
    → map act_of (es ++ e ∷ []) ≡ map act_of es ++ act_of e ∷ []
acts_more es e = map_more act_of es e

slots_by : (e : JournalEntry) (b : Bool) (xs : List Entry) → List Entry
slots_by e b xs = if b then (e.gfid, e.name) ∷ xs else xs

slots_front :
    (e : JournalEntry) (b : Bool) (xs ys : List Entry)
    → (if b then (e.gfid, e.name) ∷ (xs ++ ys) else (xs ++ ys))
    ≡ (if b then (e.gfid, e.name) ∷ xs else xs) ++ ys
slots_front e true xs ys = refl
slots_front e false xs ys = refl

pub slots_more :
    (es : List JournalEntry) (e : JournalEntry)
    → changed_slots (es ++ e ∷ []) ≡ changed_slots es ++ changed_slots (e ∷ [])
slots_more [] e = refl
slots_more (f ∷ fs) e = ap (λ xs. if is_change f.request f.reply then (f.gfid, f.name) ∷ xs else xs) (slots_more fs e) ∙ slots_front f (is_change f.request f.reply) (changed_slots fs) (changed_slots (e ∷ []))

pub copied_more :
    (es : List JournalEntry) (e : JournalEntry)
    → copied_slots (es ++ e ∷ []) ≡ copied_slots es ++ copied_slots (e ∷ [])
copied_more [] e = refl
copied_more (f ∷ fs) e = ap (λ xs. if is_dir_change f.request f.reply then (f.gfid, f.name) ∷ xs else xs) (copied_more fs e) ∙ slots_front f (is_dir_change f.request f.reply) (copied_slots fs) (copied_slots (e ∷ []))

-- more at the end of a list, or of both
pub sublist_passed : {A : Type 0} (xs ys zs : List A) → IsSublist xs ys → IsSublist xs (ys ++ zs)
sublist_passed [] ys zs h = tt
sublist_passed (x ∷ xs) [] zs h = absurd h
sublist_passed (x ∷ xs) (y ∷ ys) zs h = elim h [
  | inl q ↦ inl (q.0, sublist_passed xs ys zs q.1)
  | inr q ↦ inr (sublist_passed (x ∷ xs) ys zs q)
]

pub sublist_more :
    {A : Type 0} (xs ys : List A) (z : A) → IsSublist xs ys
    → IsSublist (xs ++ z ∷ []) (ys ++ z ∷ [])
sublist_more [] [] z h = inl (refl, tt)
sublist_more [] (y ∷ ys) z h = inr (sublist_more [] ys z tt)
sublist_more (x ∷ xs) [] z h = absurd h
sublist_more (x ∷ xs) (y ∷ ys) z h = elim h [
  | inl q ↦ inl (q.0, sublist_more xs ys z q.1)
  | inr q ↦ inr (sublist_more (x ∷ xs) ys z q)
]

pub put_twice_at :
    {A : Type 0} (f : ℕ → A) (k : ℕ) (v w : A) (m : ℕ)
    → put nat_eq (put nat_eq f k v) k w m ≡ put nat_eq f k w m
put_twice_at f k v w m = put_elim (λ x. x ≡ put nat_eq f k w m) nat_eq exact_nat (put nat_eq f k v) k w m
    (λ e. sym (ap (put nat_eq f k w) e ∙ put_same nat_eq exact_nat f k w))
    (λ ne. put_other nat_eq exact_nat f k v m ne ∙ sym (put_other nat_eq exact_nat f k w m ne))

pub put_twice :
    {A : Type 0} (f : ℕ → A) (k : ℕ) (v w : A)
    → put nat_eq (put nat_eq f k v) k w ≡ put nat_eq f k w
put_twice f k v w = λ i. λ m. put_twice_at f k v w m i

-- a list that grew at one place
pub grown_at :
    {A B : Type 0} (g : List A → List B) (f : ℕ → List A) (h : ℕ → List B) (k : ℕ) (xs : List A)
    (ys : List B)
    → ((i : ℕ) → g (f i) ≡ h i) → g xs ≡ ys → (i : ℕ)
    → g (put nat_eq f k xs i) ≡ put nat_eq h k ys i
grown_at g f h k xs ys same new i = put_elim (λ x. g x ≡ put nat_eq h k ys i) nat_eq exact_nat f k xs i
    (λ e. new ∙ sym (ap (put nat_eq h k ys) e ∙ put_same nat_eq exact_nat h k ys))
    (λ ne. same i ∙ sym (put_other nat_eq exact_nat h k ys i ne))

-- what stands at a place already may be put there
put_id_at : {A : Type 0} (f : ℕ → A) (k : ℕ) (v : A) → f k ≡ v → (m : ℕ) → f m ≡ put nat_eq f k v m
put_id_at f k v e m = put_elim (λ x. f m ≡ x) nat_eq exact_nat f k v m (λ q. ap f q ∙ e) (λ ne. refl)

pub put_id : {A : Type 0} (f : ℕ → A) (k : ℕ) (v : A) → f k ≡ v → f ≡ put nat_eq f k v
put_id f k v e = λ i. λ m. put_id_at f k v e m i
