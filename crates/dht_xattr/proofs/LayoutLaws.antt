-- In how many ranges a hash is, and which brick holds it.
use Rattle.std.proofs.Common.{◌≡◌, ℕ, zero, suc, ◌+◌, ◌<◌, ◌≤◌, Bool, true, false, true≢false, cond, List, [], ◌∷◌, length, get_or, refl, sym, ap, ◌∙◌, arith, ⊎_elim}
use Rattle.std.specs.Prelude.{Option, Some, None, count_by, position}
use Rattle.std.specs.List.{position_or_len}
use Rattle.std.proofs.lemmas.Bool.{cases_lt, cases_Bool, lt-ltb, false_from_ne_true, cond-true, cond-false}
use Rattle.std.proofs.lemmas.List.Sums.{sum_by-cons, fails_before_first}
use Rattle.std.proofs.lemmas.List.Quantifiers.{position-Some}
use Rattle.dht_xattr.specs.declared.range.Range.{Range}
use Rattle.dht_xattr.specs.Range.{contains}
use Rattle.dht_xattr.specs.Layout.{holder, covers}

some_is_not : (b : ℕ) → ◌≡◌ {A = Option ℕ} (Some b) None → ⊥
some_is_not b same = cc

-- an element that passes counts one, and any other none
count_yes :
    {X : Type 0} (p : X → Bool) (x : X) (xs : List X) → p x ≡ true
    → count_by p (x ∷ xs) ≡ suc (count_by p xs)
count_yes p x xs pass =
    sum_by-cons (λ y. cond (p y) 1 0) x xs ∙ (ap (λ (n : ℕ). n + count_by p xs) (cond-true (p x) 1 0 pass) ∙ omega arith)

count_no :
    {X : Type 0} (p : X → Bool) (x : X) (xs : List X) → p x ≡ false
    → count_by p (x ∷ xs) ≡ count_by p xs
count_no p x xs fail =
    sum_by-cons (λ y. cond (p y) 1 0) x xs ∙ (ap (λ (n : ℕ). n + count_by p xs) (cond-false (p x) 1 0 fail) ∙ omega arith)

count_none :
    {X : Type 0} (p : X → Bool) (xs : List X)
    → ((k : ℕ) (d : X) → k < length xs → p (get_or xs k d) ≡ false) → count_by p xs ≡ 0
count_none p [] fail = refl
count_none p (x ∷ xs) fail =
    count_no p x xs (fail 0 x (omega arith)) ∙ count_none p xs (λ k d h. fail (suc k) d (omega arith))

-- one element passes and no other does
pub count_one :
    {X : Type 0} (p : X → Bool) (xs : List X) (i : ℕ) (d : X) → i < length xs
    → p (get_or xs i d) ≡ true
    → ((k : ℕ) (e : X) → k < length xs → p (get_or xs k e) ≡ true → k ≡ i) → count_by p xs ≡ 1
count_one p [] i d h pass only = absurd (omega arith)
count_one p (x ∷ xs) zero d h pass only =
    let rest = count_none p xs (λ k e l. false_from_ne_true (p (get_or xs k e)) (λ t. let same = only (suc k) e (omega arith) t in absurd (omega arith))) in
    let one = count_yes p x xs pass in
    omega arith
count_one p (x ∷ xs) (suc i) d h pass only =
    let fail : p x ≡ false = false_from_ne_true (p x) (λ t. let same = only 0 x (omega arith) t in absurd (omega arith)) in
    count_no p x xs fail ∙ count_one p xs i d (omega arith) pass (λ k e l t. let same = only (suc k) e (omega arith) t in omega arith)

-- where one passes, the place of some element that does
pub counted :
    {X : Type 0} (p : X → Bool) (xs : List X) → 0 < count_by p xs
    → (k : ℕ) × (k < length xs) × ((d : X) → p (get_or xs k d) ≡ true)
counted p [] some = absurd (omega arith)
counted p (x ∷ xs) some = ⊎_elim
    (λ pass. (0, omega arith, λ d. pass))
    (λ fail. let less = count_no p x xs fail in let (k, h, at) = counted p xs (omega arith) in (suc k, omega arith, at))
    (cases_Bool (p x))

-- where two pass, the places of two elements that do
pub counted_two : {X : Type 0} (p : X → Bool) (xs : List X) → 2 ≤ count_by p xs
    → (i : ℕ) × ((j : ℕ) × (i < j) × (j < length xs) × ((d : X) → p (get_or xs i d) ≡ true) × ((d : X) → p (get_or xs j d) ≡ true))
counted_two p [] some = absurd (omega arith)
counted_two p (x ∷ xs) some = ⊎_elim
    (λ pass. let more = count_yes p x xs pass in let (k, h, at) = counted p xs (omega arith) in (0, (suc k, omega arith, omega arith, λ d. pass, at)))
    (λ fail. let less = count_no p x xs fail in let (i, (j, before, h, at_i, at_j)) = counted_two p xs (omega arith) in (suc i, (suc j, omega arith, omega arith, at_i, at_j)))
    (cases_Bool (p x))

-- an element that passes is counted, and two are
pub count_some :
    {X : Type 0} (p : X → Bool) (xs : List X) (k : ℕ) (d : X) → k < length xs
    → p (get_or xs k d) ≡ true → 0 < count_by p xs
count_some p [] k d h pass = absurd (omega arith)
count_some p (x ∷ xs) zero d h pass = let more = count_yes p x xs pass in omega arith
count_some p (x ∷ xs) (suc k) d h pass = ⊎_elim
    (λ first. let more = count_yes p x xs first in omega arith)
    (λ fail. let same = count_no p x xs fail in let some = count_some p xs k d (omega arith) pass in omega arith)
    (cases_Bool (p x))

pub count_two :
    {X : Type 0} (p : X → Bool) (xs : List X) (i j : ℕ) (d : X) → i < j → j < length xs
    → p (get_or xs i d) ≡ true → p (get_or xs j d) ≡ true → 2 ≤ count_by p xs
count_two p [] i j d before h at_i at_j = absurd (omega arith)
count_two p (x ∷ xs) i zero d before h at_i at_j = absurd (omega arith)
count_two p (x ∷ xs) zero (suc j) d before h at_i at_j =
    let more = count_yes p x xs at_i in let some = count_some p xs j d (omega arith) at_j in omega arith
count_two p (x ∷ xs) (suc i) (suc j) d before h at_i at_j =
    let two = count_two p xs i j d (omega arith) (omega arith) at_i at_j in
    ⊎_elim
    (λ first. let more = count_yes p x xs first in omega arith)
    (λ fail. let same = count_no p x xs fail in omega arith)
    (cases_Bool (p x))

-- where an element passes, the first that does
pub first_place :
    {X : Type 0} (p : X → Bool) (xs : List X) (k : ℕ) (d : X) → k < length xs
    → p (get_or xs k d) ≡ true
    → (position_or_len p xs ≤ k) × (position p xs ≡ Some (position_or_len p xs))
first_place p xs k d h pass =
    let early : position_or_len p xs ≤ k = ⊎_elim (λ late. absurd (true≢false (sym pass ∙ fails_before_first p xs k d late))) (λ le. le) (cases_lt k (position_or_len p xs)) in
    (early, cond-true _ (Some (position_or_len p xs)) None (lt-ltb (position_or_len p xs) (length xs) (omega arith)))

-- an element that passes, where none before it does, is the first
pub first_is :
    {X : Type 0} (p : X → Bool) (xs : List X) (k : ℕ) (d : X) → k < length xs
    → p (get_or xs k d) ≡ true
    → ((i : ℕ) → i < k → p (get_or xs i d) ≡ false) → position p xs ≡ Some k
first_is p xs k d h pass fails =
    let (early, found) = first_place p xs k d h pass in
    let (within, at, before) = position-Some p xs (position_or_len p xs) d found in
    found ∙ ap Some (⊎_elim
    (λ less. absurd (true≢false (sym at ∙ fails (position_or_len p xs) less)))
    (λ from. omega arith)
    (cases_lt (position_or_len p xs) k))

-- where no element passes, there is no first
pub no_first :
    {X : Type 0} (p : X → Bool) (xs : List X) (d : X)
    → ((i : ℕ) → i < length xs → p (get_or xs i d) ≡ false) → position p xs ≡ None
no_first {X} p xs d fails = by (position p xs) refl
  where
    by : (o : Option ℕ) → position p xs ≡ o → position p xs ≡ None
    by None e = e
    by (Some k) e =
        let (within, at, before) = position-Some p xs k d e in
        absurd (true≢false (sym at ∙ fails k within))

-- the holder is a brick that has a place in the layout
pub holder_within :
    (ranges : List (Option Range)) (hash b : ℕ) → holder ranges hash ≡ Some b → b < length ranges
holder_within ranges hash b found = (position-Some (λ range. contains range hash) ranges b None found).0

-- a hash that is in some range has a holder
pub holder_some :
    (ranges : List (Option Range)) (hash : ℕ) → 0 < covers ranges hash
    → (b : ℕ) × (b < length ranges) × (holder ranges hash ≡ Some b)
holder_some ranges hash some =
    let (k, h, at) = counted (λ range. contains range hash) ranges some in
    let (early, found) = first_place (λ range. contains range hash) ranges k None h (at None) in
    (position_or_len (λ range. contains range hash) ranges, omega arith, found)

-- a hash that has no holder is in no range
pub holder_none :
    (ranges : List (Option Range)) (hash : ℕ) → holder ranges hash ≡ None → covers ranges hash ≡ 0
holder_none ranges hash none = ⊎_elim
    (λ some. let (b, inside, held) = holder_some ranges hash some in absurd (some_is_not b (sym held ∙ none)))
    (λ zero. omega arith)
    (cases_lt 0 (covers ranges hash))

-- the holder's range contains the hash
pub holder_contains :
    (ranges : List (Option Range)) (hash b : ℕ) → holder ranges hash ≡ Some b
    → contains (get_or ranges b None) hash ≡ true
holder_contains ranges hash b held = (position-Some (λ range. contains range hash) ranges b None held).1
