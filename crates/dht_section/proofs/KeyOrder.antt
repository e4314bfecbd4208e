-- The order of keys and of names, as lists of them are sorted by.
use Rattle.std.proofs.Common.{◌≡◌, refl, ap}
use Rattle.std.specs.Prelude.{nat_eq, ◌&&◌, bytes_eq}
use Rattle.std.specs.Cmp.{IsTotalOrder, both_tied, unsigned_ties}
use Rattle.std.specs.Cmp.Lexicographic.{slice_cmp, texts_ties}
use Rattle.std.specs.Ordering.{nat_cmp, ordering_then, eq_by_cmp}
use Rattle.std.specs.declared.cmp.Ordering.{Ordering}
use Rattle.std.specs.declared.cmp.Ordering.TheVariants.{Less, Equal, Greater}
use Rattle.dht_types.specs.Gfid.{Entry}
use Rattle.dht_types.specs.declared.locks.Key.{Key}
use Rattle.dht_types.specs.declared.locks.Key.TheVariants.{Rebalance, Dir, Entry as Name, Content}
pub use Rattle.dht_types.specs.contracts.locks.KeyOrd.TheImpl.Laws.{total-law as key_total, matches_eq-law as key_ties}
pub use Rattle.dht_brick.proofs.TableLemmas.{entry_total, entry_exact}
use Rattle.dht_brick.proofs.TableLemmas.{gfid_exact}
use Rattle.dht_section.specs.Claims.{rank_cmp}
use Rattle.dht_section.specs.Want.{entry_cmp}

abbrev order : {K : Type 0} {R : K → K → Ordering} → IsTotalOrder R → K → K → Ordering
order {R = R} o = R

abbrev pub key_cmp : Key → Key → Ordering
key_cmp = order key_total

then_equal : (o : Ordering) → o ≡ ordering_then o Equal
then_equal Less = refl
then_equal Equal = refl
then_equal Greater = refl

-- keys are sorted by their rank
pub key_rank : (a b : Key) → key_cmp a b ≡ rank_cmp a b
key_rank Rebalance Rebalance = refl
key_rank (Dir g) (Dir h) = then_equal (nat_cmp g.0 h.0)
key_rank (Content g) (Content h) = then_equal (nat_cmp g.0 h.0)
key_rank (Name g m) (Name h n) = refl
key_rank Rebalance (Dir h) = refl
key_rank Rebalance (Name h n) = refl
key_rank Rebalance (Content h) = refl
key_rank (Dir g) Rebalance = refl
key_rank (Dir g) (Name h n) = refl
key_rank (Dir g) (Content h) = refl
key_rank (Name g m) Rebalance = refl
key_rank (Name g m) (Dir h) = refl
key_rank (Name g m) (Content h) = refl
key_rank (Content g) Rebalance = refl
key_rank (Content g) (Dir h) = refl
key_rank (Content g) (Name h n) = refl

pub rank_is : key_cmp ≡ rank_cmp
rank_is = λ i a b. key_rank a b i

-- names are one where they tie
pub entry_ties : (a b : Entry) → (nat_eq a.0.0 b.0.0 && bytes_eq a.1 b.1) ≡ eq_by_cmp entry_cmp a b
entry_ties a b = both_tied _ _ (nat_cmp a.0.0 b.0.0) (slice_cmp nat_cmp a.1 b.1) (unsigned_ties a.0.0 b.0.0) (texts_ties a.1 b.1)

-- keys that tie are one
pub key_exact : (a b : Key) → key_cmp a b ≡ Equal → a ≡ b
key_exact Rebalance Rebalance e = refl
key_exact (Dir g) (Dir h) e = ap (λ x. Dir x) (gfid_exact g h e)
key_exact (Content g) (Content h) e = ap (λ x. Content x) (gfid_exact g h e)
key_exact (Name g m) (Name h n) e = ap (λ (x : Entry). Name x.0 x.1) (entry_exact (g, m) (h, n) e)
key_exact a b e = cc
