-- Keys of one name in one directory.
use Rattle.std.proofs.Common.{◌≡◌, ℕ, List, ap, sym, ◌∙◌, refl}
use Rattle.std.specs.Ordering.{nat_cmp, is_eq, ordering_then}
use Rattle.std.specs.Cmp.Lexicographic.{slice_cmp}
use Rattle.std.specs.declared.cmp.Ordering.{Ordering}
use Rattle.std.specs.declared.cmp.Ordering.TheVariants.{Less, Equal, Greater}
use Rattle.std.proofs.lemmas.Cmp.{ranked}
use Rattle.std.proofs.lemmas.Map.Text.{is_eq-slice_cmp}
use Rattle.std.proofs.lemmas.Slice.Eq.{bytes_eq-Decides}
use Rattle.dht_types.specs.declared.names.EntryKey.{EntryKey}
use Rattle.dht_types.specs.Entry.{entry_cmp}

both_equal :
    (first rest : Ordering) → ordering_then first rest ≡ Equal → (first ≡ Equal) × (rest ≡ Equal)
both_equal Less rest tied = cc
both_equal Equal rest tied = (refl, tied)
both_equal Greater rest tied = cc

numbers_tied : (m n : ℕ) (order : Ordering) → order ≡ nat_cmp m n → order ≡ Equal → m ≡ n
numbers_tied m n Less is_it tied = cc
numbers_tied m n Equal is_it tied = ranked m n Equal is_it
numbers_tied m n Greater is_it tied = cc

names_tied : (xs ys : List ℕ) → slice_cmp nat_cmp xs ys ≡ Equal → xs ≡ ys
names_tied xs ys tied = (bytes_eq-Decides xs ys).0 (sym (is_eq-slice_cmp xs ys) ∙ ap is_eq tied)

-- keys that compare equal are one
pub entry_cmp-Equal : (a b : EntryKey) → entry_cmp a b ≡ Equal → a ≡ b
entry_cmp-Equal a b tied =
    let parts = both_equal (nat_cmp a.dir.0 b.dir.0) (slice_cmp nat_cmp a.name b.name) tied in
    let dir = numbers_tied a.dir.0 b.dir.0 (nat_cmp a.dir.0 b.dir.0) refl parts.0 in
    let name = names_tied a.name b.name parts.1 in
    let key : ℕ → List ℕ → EntryKey = λ number bytes. record { dir = record { 0 = number }; name = bytes } in
    ap (λ number. key number a.name) dir ∙ ap (key b.dir.0) name
