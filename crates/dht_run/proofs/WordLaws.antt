-- Words that spell weights, and the command that they follow.
use Rattle.std.proofs.Common.{◌≡◌, ◌≢◌, ℕ, ◌≤◌, ◌<◌, List, [], ◌∷◌, ◌++◌, length, get_or, take, drop, map, codes, decimal, All, suc, inl, inr, sym, ap, subst, ◌∙◌, arith}
use Rattle.std.proofs.Math.Seq.{drop-cons}
use Rattle.std.proofs.lemmas.List.{take-append-drop}
use Rattle.std.proofs.lemmas.List.Elements.{recursion_from_All}
use Rattle.dht_types.specs.Volume.{HasWeight}
use Rattle.dht_sched.proofs.LineLemmas.{no_weights, same_weights}
use Rattle.dht_run.specs.Program.{IsHash, IsLayout, IsCommand}

abbrev IsLight : ℕ → Type 0
IsLight w = w ≤ 1000

-- words that spell weights up to one that spells none are no weights
pub no_weights_at :
    (words : List (List ℕ)) (taken : List ℕ) (i : ℕ) (word : List ℕ) → i < length words
    → map decimal taken ≡ take i words → word ≡ get_or words i word
    → ((w : ℕ) → w ≤ 1000 → decimal w ≢ word) → (ws : List ℕ) → All IsLight ws → map decimal ws ≢ words
no_weights_at words taken i word within read is none ws light same =
    let rest = drop (suc i) words in
    let split : map decimal taken ++ word ∷ rest ≡ words =
    ap (λ t. t ++ word ∷ rest) read ∙ (ap (λ x. take i words ++ x ∷ rest) is ∙ (ap (λ d. take i words ++ d) (sym (drop-cons words i word within)) ∙ take-append-drop i words)) in
    no_weights taken word rest none ws (recursion_from_All IsLight ws light) (same ∙ sym split)

-- the weights of a layout are those that its words spell
pub one_layout :
    (words : List (List ℕ)) (v w : List ℕ) → IsLayout words v → IsLayout words w → v ≡ w
one_layout words v w hv hw =
    let a = hv.are in
    let b = hw.are in
    same_weights v w (recursion_from_All IsLight v hv.volume.light) (recursion_from_All IsLight w hw.volume.light) (cc (a, b))

-- the first letter of the first word
abbrev letter : List (List ℕ) → ℕ
letter [] = 0
letter (word ∷ words) = get_or word 0 0

no_hash : (behind names : List (List ℕ)) → IsHash (codes "layout" ∷ behind) names → ⊥
no_hash behind names h = let letters : ◌≡◌ {A = ℕ} 108 104 = ap letter h.are in absurd (omega arith)

-- weights that are not those of a volume
pub no_layout :
    (behind : List (List ℕ)) (weights : List ℕ) → map decimal weights ≡ behind → All IsLight weights
    → ((1 ≤ length weights) × (length weights ≤ 32) × HasWeight weights → ⊥) → IsCommand (codes "layout" ∷ behind) → ⊥
no_layout behind weights spell light none (inl same) = let letters : ◌≡◌ {A = ℕ} 108 114 = ap letter same in absurd (omega arith)
no_layout behind weights spell light none (inr (inl hash)) = no_hash behind hash.0 hash.1
no_layout behind weights spell light none (inr (inr layout)) =
    let volume = layout.1.volume in
    let same : layout.0 ≡ weights = same_weights layout.0 weights (recursion_from_All IsLight layout.0 volume.light) (recursion_from_All IsLight weights light) (let a = layout.1.are in cc (a, spell)) in
    none (subst (λ (x : List ℕ). (1 ≤ length x) × (length x ≤ 32) × HasWeight x) same (volume.some, volume.few, volume.heavy))
