-- What holds of a program while a part of it runs.
use Rattle.std.specs.Prelude.{ℕ}
use Rattle.dht_section.specs.Rely.{Rely}
use Rattle.dht_section.specs.Scene.{Scene}
use Rattle.dht_section.specs.Stages.{Stage, MaySend, IsStable}
use Rattle.dht_section.specs.Parts.{as_part}

pub part_permitted :
    (x : Stage) (more : ℕ) (Beside : Scene → Type 0) → MaySend x → MaySend (as_part x more Beside)
part_permitted x more Beside may s sound h = may s sound (record { claims = h.claims; knows = h.knows.0 })

pub part_stable :
    (x : Stage) (more : ℕ) (Beside : Scene → Type 0) → IsStable x
    → ((s t : Scene) → Beside s → Rely s t → Beside t) → IsStable (as_part x more Beside)
part_stable x more Beside stable beside s t h o = (stable s t h.0 o, beside s t h.1 o)
