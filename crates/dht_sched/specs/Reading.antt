-- What it is to read.
use Rattle.std.specs.Prelude.{◌≡◌, ◌≢◌, Option, Some, None, List, ◌∷◌, Result, Ok, Err}
use Rattle.dht_sched.specs.declared.fault.LineFault.{LineFault}
use Rattle.dht_sched.specs.declared.fault.LineFault.TheVariants.{Malformed, OutOfMemory}

-- what was read is right and has this text, and where nothing was read nothing right has it
abbrev pub Reads : {X T : Type 0} → (X → T) → (X → Type 0) → T → Option X → Type 0
Reads {X} text Right seen None = (x : X) → Right x → text x ≢ seen
Reads text Right seen (Some x) = Right x × (text x ≡ seen)

-- the same, unless memory ran out
abbrev pub ReadsUnless : {X T : Type 0} → (X → T) → (X → Type 0) → T → Result X LineFault → Type 0
ReadsUnless text Right seen (Ok x) = Right x × (text x ≡ seen)
ReadsUnless {X} text Right seen (Err Malformed) = (x : X) → Right x → text x ≢ seen
ReadsUnless text Right seen (Err OutOfMemory) = Unit {0}

-- the first of these was read, and those behind it are left
abbrev pub ReadsFirst :
    {X T : Type 0} → (X → T) → (X → Type 0) → List T → List T → Result X LineFault → Type 0
ReadsFirst text Right seen left (Ok x) = Right x × (seen ≡ text x ∷ left)
ReadsFirst {X} {T} text Right seen left (Err Malformed) =
    (x : X) (rest : List T) → Right x → seen ≢ text x ∷ rest
ReadsFirst text Right seen left (Err OutOfMemory) = Unit {0}
