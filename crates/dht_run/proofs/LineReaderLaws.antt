-- What a first newline, or none, says of the lines of an input.
use Rattle.std.proofs.Common.{◌≡◌, ◌≢◌, ℕ, suc, ◌+◌, ◌<◌, ◌≤◌, List, [], ◌∷◌, ◌++◌, length, take, drop, sym, ap, subst, ◌∙◌, arith, append_assoc, inl, inr, Option, None, Some, IfSome}
use Rattle.std.proofs.lemmas.List.{take-append-drop, drop_more, append-nil, length-append, length-take-le, nil_from_length}
use Rattle.dht_run.specs.LineReader.{Reader, input_of, HasNoNewline, IsWithinLimits, HasNoLine, IsFull, IsFirstNewline, CutsLine, Adds}
use Rattle.dht_run.specs.Outside.{before_told, IsAtEnd}
use Rattle.dht_run.proofs.Told.{before_told-before_told}

-- a prefix with no newline is within the first line
pub line_past :
    (prefix rest line after : List ℕ) → HasNoNewline prefix → prefix ++ rest ≡ line ++ 10 ∷ after
    → length prefix ≤ length line
line_past [] rest line after one e = omega arith
line_past (x ∷ prefix) rest [] after one e = absurd (one 0 0 (omega arith) (cc))
line_past (x ∷ prefix) rest (y ∷ line) after one e =
    let tail : prefix ++ rest ≡ line ++ 10 ∷ after = cc in
    omega (arith, line_past prefix rest line after (λ k d h. one (suc k) d (omega (arith, h))) tail)

-- an input with no newline has no line
pub no_line_end : (cut : ℕ) (input : List ℕ) → input ≢ [] → HasNoNewline input → HasNoLine cut input
no_line_end cut input more one = record {
  goes_on = more;
  no_line = λ line after e one' within.
      let le : length input ≤ length line = line_past input [] line after one (append-nil input ∙ e) in
      let len : length input ≡ length line + length (10 ∷ after) = ap length e ∙ length-append line (10 ∷ after) in
      omega arith;
}

-- an input that passes a limit before its first newline has no line
no_line_past :
    (cut : ℕ) (prefix rest : List ℕ) → prefix ++ rest ≢ [] → HasNoNewline prefix
    → ¬ IsWithinLimits cut (length prefix) → HasNoLine cut (prefix ++ rest)
no_line_past cut prefix rest more one past = record {
  goes_on = more;
  no_line = λ line after e one' within.
      let le : length prefix ≤ length line = line_past prefix rest line after one e in
      past (omega (arith, within.0), omega (arith, within.1));
}

-- bytes, and then others, are some
more_than : (held rest : List ℕ) → 0 < length held → held ++ rest ≢ []
more_than held rest some none = omega (arith, length-append held rest, ap length none)

pub no_line_at :
    (cut k : ℕ) (held : List ℕ) → IsFirstNewline held k → ¬ IsWithinLimits cut k → (rest : List ℕ)
    → HasNoLine cut (held ++ rest)
no_line_at cut k held first past rest =
    let len : length (take k held) ≡ k = length-take-le k held (omega (arith, first.within)) in
    let whole : take k held ++ (drop k held ++ rest) ≡ held ++ rest =
    sym (append_assoc (take k held) (drop k held) rest) ∙ ap (λ prefix. prefix ++ rest) (take-append-drop k held) in
    let more : take k held ++ (drop k held ++ rest) ≢ [] = λ none. more_than held rest (omega (arith, first.within)) (sym whole ∙ none) in
    subst (HasNoLine cut) whole (no_line_past cut (take k held) (drop k held ++ rest) more first.before (subst (λ n. ¬ IsWithinLimits cut n) (sym len) past))

-- as many bytes as a limit allows, without a newline, are too many
full_is_past : (r : Reader) → IsFull r → ¬ IsWithinLimits r.cut (length r.pending)
full_is_past r full within = elim full.1 [ inl le ↦ omega (arith, within.0) | inr le ↦ omega (arith, within.1) ]

pub no_line_full :
    (r : Reader) → HasNoNewline r.pending → IsFull r → (rest : List ℕ)
    → HasNoLine r.cut (r.pending ++ rest)
no_line_full r one full rest = no_line_past r.cut r.pending rest (more_than r.pending rest full.0) one (full_is_past r full)

-- what is held has no line if no input that begins with it has one
pub no_line_held :
    (cut : ℕ) (held : List ℕ) → ((rest : List ℕ) → HasNoLine cut (held ++ rest))
    → HasNoLine cut held
no_line_held cut held past = subst (HasNoLine cut) (append-nil held) (past [])

-- the same of what is held and what the source has left, told as the input of a reader before
pub no_line_told :
    (old now : Reader) (before after : Option (List ℕ)) → input_of now after ≡ input_of old before
    → now.cut ≡ old.cut → ((rest : List ℕ) → HasNoLine now.cut (now.pending ++ rest))
    → IfSome (input_of old before) (HasNoLine old.cut)
no_line_told old now before after same cut past =
    subst (λ told. IfSome told (HasNoLine old.cut)) same (subst (λ n. IfSome (input_of now after) (HasNoLine n)) cut (told now after past))
  where
    told : (now : Reader) (after : Option (List ℕ)) → ((rest : List ℕ) → HasNoLine now.cut (now.pending ++ rest)) → IfSome (input_of now after) (HasNoLine now.cut)
    told now None past = tt
    told now (Some rest) past = past rest

-- at the end of the source, what is held is the input
pub input_of_end :
    (old now : Reader) (before after : Option (List ℕ)) → input_of now after ≡ input_of old before
    → IsAtEnd after → (P : List ℕ → Type 0) → P now.pending → IfSome (input_of old before) P
input_of_end old now before after same end P p = subst (λ told. IfSome told P) same (told now after end P p)
  where
    told : (now : Reader) (after : Option (List ℕ)) → IsAtEnd after → (P : List ℕ → Type 0) → P now.pending → IfSome (input_of now after) P
    told now None end P p = tt
    told now (Some rest) end P p = subst P (sym (append-nil now.pending) ∙ ap (λ bytes. now.pending ++ bytes) (sym end)) p

-- an input of nothing is at its end
pub is_at_end : (told : Option (List ℕ)) → IfSome told (λ bytes. bytes ≡ []) → IsAtEnd told
is_at_end None none = tt
is_at_end (Some bytes) none = none

-- where nothing was added, what is held has no more newlines
pub one_line_still :
    (old new : Reader) (n : ℕ) (before after : Option (List ℕ)) → Adds old new n before after
    → n ≡ 0 → HasNoNewline old.pending → HasNoNewline new.pending
one_line_still old new n before after adds none one =
    let nothing : adds.added ≡ [] = nil_from_length adds.added (adds.many ∙ none) in
    subst HasNoNewline (sym (adds.held ∙ ap (λ bytes. old.pending ++ bytes) nothing ∙ append-nil old.pending)) one

-- what is added to the bytes that are held was in the input before
pub input_of_more :
    (old new : Reader) (n : ℕ) (before after : Option (List ℕ)) → Adds old new n before after
    → input_of new after ≡ input_of old before
input_of_more old new n before after adds =
    ap (λ held. before_told held after) adds.held ∙ sym (before_told-before_told old.pending adds.added after)
    ∙ ap (before_told old.pending) (sym adds.given)

-- a cut at the first newline
pub cuts_line :
    (old now new : Reader) (before after : Option (List ℕ)) (k : ℕ)
    → input_of now after ≡ input_of old before → now.cut ≡ old.cut → IsFirstNewline now.pending k
    → IsWithinLimits now.cut k → new.line ≡ take k now.pending
    → new.pending ≡ drop (k + 1) now.pending → new.cut ≡ now.cut + k + 1
    → CutsLine old new before after
cuts_line old now new before after k same cut first within line rest counted =
    let len : length new.line ≡ k = ap length line ∙ length-take-le k now.pending (omega (arith, first.within)) in
    let newline : drop k now.pending ≡ 10 ∷ drop (k + 1) now.pending =
    drop_more now.pending k 0 first.within ∙ ap (λ b. b ∷ drop (k + 1) now.pending) first.newline in
    let whole : (new.line ++ 10 ∷ []) ++ new.pending ≡ now.pending =
    append_assoc new.line (10 ∷ []) new.pending ∙ ap (λ prefix. prefix ++ 10 ∷ new.pending) line
    ∙ ap (λ back. take k now.pending ++ 10 ∷ back) rest ∙ ap (λ back. take k now.pending ++ back) (sym newline)
    ∙ take-append-drop k now.pending in
    record {
      no_newline = subst HasNoNewline (sym line) first.before;
      prefix = sym same ∙ ap (λ held. before_told held after) (sym whole) ∙ sym (before_told-before_told (new.line ++ 10 ∷ []) new.pending after);
      counted = omega (arith, len, cut, counted);
      within = (omega (arith, len, cut, within.0), omega (arith, len, cut, within.1));
    }
