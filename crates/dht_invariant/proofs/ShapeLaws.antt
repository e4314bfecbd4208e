-- What a live record tells of the shape of its file.
use Rattle.std.proofs.Common.{◌≡◌, ℕ, true, false, List, refl, sym, ap, ◌∙◌, inl, inr, ◌⊎◌}
use Rattle.std.specs.Prelude.{Option, Some, None}
use Rattle.dht_types.specs.declared.stored.Record.{Record}
use Rattle.dht_types.specs.declared.stored.Record.TheVariants as stored
use Rattle.dht_brick.specs.Parts.{is_live}
use Rattle.dht_section.specs.Shapes.{FileShape, Gone, Live, Moving, Copying, Moved, here, either, record_at}
use Rattle.dht_section.proofs.EarlyLaws.{nat_cases, here_at, here_off}

-- what is live has a hop and bytes
pub live_is :
    (o : Option Record) → is_live o ≡ true
    → (hop : ℕ) × (bytes : List ℕ) × (o ≡ Some (stored.Live hop bytes))
live_is (Some (stored.Live hop bytes)) h = (hop, bytes, refl)
live_is (Some (stored.Moving hop t bytes)) h = absurd (let z : false ≡ true = h in cc)
live_is (Some (stored.Standby c)) h = absurd (let z : false ≡ true = h in cc)
live_is (Some (stored.Forward hop b)) h = absurd (let z : false ≡ true = h in cc)
live_is None h = absurd (let z : false ≡ true = h in cc)

-- a record that stands on one brick is what it is there, or nothing
here_is : (x : Record) (c b : ℕ) (r : Record) → here (Some x) c b ≡ Some r → (b ≡ c) × (x ≡ r)
here_is x c b r h = elim (nat_cases b c) [
  | inl q ↦ (q, (let z : Some x ≡ Some r = sym (here_at (Some x) c) ∙ (ap (here (Some x) c) (sym q) ∙ h) in cc))
  | inr ne ↦ absurd (let z : None ≡ Some r = sym (here_off (Some x) c b ne) ∙ h in cc)
]

either_is : (o p : Option Record) (r : Record) → either o p ≡ Some r → (o ≡ Some r) ⊎ (p ≡ Some r)
either_is None p r h = inr h
either_is (Some x) p r h = inl h

-- a file that is live on a brick is in the shape of that
pub live_shape :
    (h : FileShape) (b hop : ℕ) (bytes : List ℕ) → record_at h b ≡ Some (stored.Live hop bytes)
    → (k : ℕ) × (x : List ℕ) × (h ≡ Live b k x)
live_shape Gone b hop bytes e = absurd (let z : None ≡ Some (stored.Live hop bytes) = e in cc)
live_shape (Live c k x) b hop bytes e = (k, x, ap (λ (j : ℕ). Live j k x) (sym (here_is (stored.Live k x) c b (stored.Live hop bytes) e).0))
live_shape (Moving c k t x) b hop bytes e = absurd (let z : stored.Moving k t x ≡ stored.Live hop bytes = (here_is (stored.Moving k t x) c b (stored.Live hop bytes) e).1 in cc)
live_shape (Copying c k t x copy) b hop bytes e = absurd (elim (either_is (here (Some (stored.Moving k t x)) c b) (here (Some (stored.Standby copy)) t.0 b) (stored.Live hop bytes) e) [
  | inl q ↦ (let z : stored.Moving k t x ≡ stored.Live hop bytes = (here_is (stored.Moving k t x) c b (stored.Live hop bytes) q).1 in cc)
  | inr q ↦ (let z : stored.Standby copy ≡ stored.Live hop bytes = (here_is (stored.Standby copy) t.0 b (stored.Live hop bytes) q).1 in cc)
])
live_shape (Moved t copy) b hop bytes e = absurd (let z : stored.Standby copy ≡ stored.Live hop bytes = (here_is (stored.Standby copy) t b (stored.Live hop bytes) e).1 in cc)
