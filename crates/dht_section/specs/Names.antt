-- The invariant of one name.
use Rattle.std.specs.Prelude.{ℕ, ◌<◌, ◌≡◌, Option}
use Rattle.dht_types.specs.Tree.{Node}
use Rattle.dht_types.specs.declared.stored.Slot.{Slot}
use Rattle.dht_section.specs.Shapes.{NameShape, NameFits, core_at, node_of}

-- the name stands in this shape, and means what the tree has
pub record StandsAs (count : ℕ) (cores : ℕ → Slot) (tree : Option Node) (h : NameShape)
    : Type 0 where
  pub fits : NameFits count h
  pub has : (b : ℕ) → b < count → cores b ≡ core_at h b
  pub node : tree ≡ node_of h

-- it stands in some shape
abbrev pub NameInvariant : ℕ → (ℕ → Slot) → Option Node → Type 0
NameInvariant count cores tree = (h : NameShape) × StandsAs count cores tree h
