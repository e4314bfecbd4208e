-- The bytes that a buffer holds, as they are cut, moved and added to.
use Rattle.std.proofs.Common.{◌≡◌, ℕ, ◌+◌, ◌-◌, ◌≤◌, List, ◌++◌, length, take, drop, sym, ap, ◌∙◌, arith}
use Rattle.std.proofs.Math.Seq.{take-add}
use Rattle.std.proofs.lemmas.List.{drop-take, drop-drop, take_at, length-drop, length-take-le}

-- what is held after its first n bytes are let go
pub held_after :
    (buffer : List ℕ) (start held n : ℕ) → n ≤ held
    → take (held - n) (drop (start + n) buffer) ≡ drop n (take held (drop start buffer))
held_after buffer start held n le =
    let whole : n + (held - n) ≡ held = omega arith in
    ap (take (held - n)) (sym (drop-drop n start buffer)) ∙ sym (drop-take n (held - n) (drop start buffer))
    ∙ ap (λ k. drop n (take k (drop start buffer))) whole

-- what is held stays if the buffer up to its end stays
pub held_same :
    (old new : List ℕ) (start held : ℕ) → take (start + held) new ≡ take (start + held) old
    → take held (drop start new) ≡ take held (drop start old)
held_same old new start held same =
    sym (drop-take start held new) ∙ ap (drop start) same ∙ drop-take start held old

-- what is held after n more bytes of the buffer count
pub held_more :
    (buffer : List ℕ) (start held n : ℕ)
    → take (held + n) (drop start buffer)
    ≡ take held (drop start buffer) ++ take n (drop (start + held) buffer)
held_more buffer start held n =
    take-add held n (drop start buffer) ∙ ap (λ rest. take held (drop start buffer) ++ take n rest) (drop-drop held start buffer)

-- what a buffer of this length shows of bytes of that length: n is the buffer's length
all_shown : (bytes behind : List ℕ) (n : ℕ) → length bytes ≡ n → take n (bytes ++ behind) ≡ bytes
all_shown bytes behind n len = take_at bytes behind n len

-- The buffer was `old`; it shows `moved`, and then `filled`, in place of `old`; what
-- is held stands at another place. It stays where the bytes up to its end stay.
pub filled_same :
    (old was moved shown filled behind behind' : List ℕ) (n start place held : ℕ) → was ≡ old
    → length moved ≡ length was → n ≡ length old → shown ≡ take n (moved ++ behind)
    → length filled ≡ length shown → take held (drop place moved) ≡ take held (drop start was)
    → take (place + held) filled ≡ take (place + held) shown
    → take held (drop place (take n (filled ++ behind'))) ≡ take held (drop start old)
filled_same old was moved shown filled behind behind' n start place held value kept size is len' same prefix =
    let len : length moved ≡ n = kept ∙ ap length value ∙ sym size in
    let shows : shown ≡ moved = is ∙ all_shown moved behind n len in
    let all : take n (filled ++ behind') ≡ filled = all_shown filled behind' n (len' ∙ ap length shows ∙ len) in
    ap (λ bytes. take held (drop place bytes)) all
    ∙ held_same moved filled place held (prefix ∙ ap (take (place + held)) shows) ∙ same ∙ ap (λ bytes. take held (drop start bytes)) value

-- and more of what stands behind it counts
pub filled_more :
    (old was moved shown filled behind behind' : List ℕ) (n start place held more : ℕ) → was ≡ old
    → length moved ≡ length was → n ≡ length old → shown ≡ take n (moved ++ behind)
    → length filled ≡ length shown → take held (drop place moved) ≡ take held (drop start was)
    → take (place + held) filled ≡ take (place + held) shown
    → take (held + more) (drop place (take n (filled ++ behind')))
    ≡ take held (drop start old) ++ take more (drop (place + held) filled)
filled_more old was moved shown filled behind behind' n start place held more value kept size is len' same prefix =
    let len : length moved ≡ n = kept ∙ ap length value ∙ sym size in
    let shows : shown ≡ moved = is ∙ all_shown moved behind n len in
    let all : take n (filled ++ behind') ≡ filled = all_shown filled behind' n (len' ∙ ap length shows ∙ len) in
    ap (λ bytes. take (held + more) (drop place bytes)) all ∙ held_more filled place held more
    ∙ ap (λ prefix. prefix ++ take more (drop (place + held) filled)) (held_same moved filled place held (prefix ∙ ap (take (place + held)) shows) ∙ same ∙ ap (λ bytes. take held (drop start bytes)) value)

-- how many bytes stand in a part of a buffer
pub length-part :
    (bytes : List ℕ) (from n : ℕ) → from + n ≤ length bytes → length (take n (drop from bytes)) ≡ n
length-part bytes from n le = length-take-le n (drop from bytes) (omega (arith, length-drop from bytes))
