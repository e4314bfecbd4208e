-- Lists that are joined, a part or an item at a time.
use Rattle.std.proofs.Common.{◌≡◌, List, [], ◌∷◌, ◌++◌, ap, sym, ◌∙◌, append_assoc}

-- an item that was appended, and the items that are left
pub append_one :
    {A : Type 0} (start out : List A) (x : A) (rest : List A) → out ≡ start ++ x ∷ []
    → out ++ rest ≡ start ++ x ∷ rest
append_one start out x rest e = ap (λ xs. xs ++ rest) e ∙ append_assoc start (x ∷ []) rest

-- an item and three parts, appended in turn
pub append_parts :
    {A : Type 0} (start first second third all : List A) (x : A) (xs ys zs : List A)
    → first ≡ start ++ x ∷ [] → second ≡ first ++ xs → third ≡ second ++ ys → all ≡ third ++ zs
    → all ≡ start ++ (x ∷ (xs ++ ys ++ zs))
append_parts start first second third all x xs ys zs p q r s =
    s ∙ ap (λ before. before ++ zs) (r ∙ ap (λ before. before ++ ys) (q ∙ append_one start first x xs p)) ∙ append_assoc (start ++ (x ∷ xs)) ys zs ∙ append_assoc start (x ∷ xs) (ys ++ zs) ∙ ap (λ rest. start ++ (x ∷ rest)) (sym (append_assoc xs ys zs))
