-- Laws of histories: one more line, or several.
use Rattle.std.proofs.Common.{◌≡◌, ℕ, ◌+◌, ◌≤◌, List, [], ◌∷◌, ◌++◌, refl, length, arith}
use Rattle.std.specs.Prelude.{nat_eq, Option, Some, None}
use Rattle.dht_types.proofs.PutLaws.{put_same, put_other, exact_nat}
use Rattle.dht_types.specs.History.{History, Owed, with_step, tells, with_line, with_lines, start, history_of, LegalFrom}
use Rattle.dht_types.specs.declared.calls.TreeStep.{TreeStep}
use Rattle.dht_types.specs.declared.lines.Line.{Line}
use Rattle.dht_types.specs.declared.lines.Line.TheVariants.{Volume, Remounted, Called, Stepped, Waited, Tree as Changed, Answered, WentDown, CameUp, Died, Refused}

pub lines_more :
    (s : History) (xs : List Line) (x : Line)
    → with_lines s (xs ++ x ∷ []) ≡ with_line (with_lines s xs) x
lines_more s [] x = refl
lines_more s (y ∷ ys) x = lines_more (with_line s y) ys x

pub lines_append :
    (s : History) (xs ys : List Line) → with_lines s (xs ++ ys) ≡ with_lines (with_lines s xs) ys
lines_append s [] ys = refl
lines_append s (x ∷ xs) ys = lines_append (with_line s x) xs ys

pub legal_append :
    (s : History) (xs ys : List Line) → LegalFrom s xs → LegalFrom (with_lines s xs) ys
    → LegalFrom s (xs ++ ys)
legal_append s [] ys l k = k
legal_append s (x ∷ xs) ys l k = (l.0, legal_append (with_line s x) xs ys l.1 k)

pub size_from : (s : History) (xs : List Line) → (with_lines s xs).size ≡ s.size + length xs
size_from s [] = omega arith
size_from s (x ∷ xs) = omega (arith, size_from (with_line s x) xs)

pub size_of : (xs : List Line) → (history_of xs).size ≡ length xs
size_of xs = omega (arith, size_from start xs)

-- what was told of earlier points stays told
pub past_with_line :
    (s : History) (x : Line) (j : ℕ) → j ≤ s.size → (with_line s x).past j ≡ s.past j
past_with_line s x j h = put_other nat_eq exact_nat s.past (s.size + 1) (tells s x).tree j (λ e. omega arith)

pub point_with_line :
    (s : History) (x : Line) → (with_line s x).past (with_line s x).size ≡ (with_line s x).tree
point_with_line s x = put_same nat_eq exact_nat s.past (s.size + 1) (tells s x).tree

step_run : (s : History) (step : TreeStep) (o a : Option Owed) → (with_step s step o a).run ≡ s.run
step_run s step None None = refl
step_run s step None (Some a) = refl
step_run s step (Some o) a = refl

-- a remount begins another run, and no other line does
abbrev pub IsNoRemount : Line → Type 0
IsNoRemount (Remounted w) = ⊥
IsNoRemount x = Unit {0}

pub run_with_line : (s : History) (x : Line) → IsNoRemount x → (with_line s x).run ≡ s.run
run_with_line s (Volume w) h = refl
run_with_line s (Remounted w) h = absurd h
run_with_line s (Called k c call) h = refl
run_with_line s (Stepped k c b q r) h = refl
run_with_line s (Waited k c b w) h = refl
run_with_line s (Changed k step) h = step_run s step s.owed s.allowed
run_with_line s (Answered k c j a) h = refl
run_with_line s (WentDown b) h = refl
run_with_line s (CameUp b) h = refl
run_with_line s (Died c) h = refl
run_with_line s (Refused n cause) h = refl
