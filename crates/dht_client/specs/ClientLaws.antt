-- The laws of a client: those of its program.
use Rattle.std.proofs.Common.{◌≡◌, ◌<◌, true, false, arith}
use Rattle.std.specs.Prelude.{Option, Some, None, is_some}
use Rattle.dht_section.specs.PartLaws.{part_permitted}
use Rattle.dht_section.specs.Stages.{MaySend, IsCallStable}
use Rattle.dht_client.specs.declared.calling.Running.{Running}
use Rattle.dht_client.specs.declared.calling.Client.{Client}
use Rattle.dht_client.specs.Client.{running_stage, client_is_busy, client_stage}
use Rattle.dht_client.specs.Program.{program_stage, program_way}
use Rattle.dht_client.specs.ProgramLaws.{program_permitted, program_stable, program_goes_on, program_way_stable}

running_permitted : (o : Option Running) → is_some o ≡ true → MaySend (running_stage o)
running_permitted None e s sound h = absurd (let k : false ≡ true = e in cc)
running_permitted (Some x) e s sound h =
    part_permitted (program_stage x.program) 0 (λ s. program_way x.program s) (program_permitted x.program) s sound h

pub client_permitted : (c : Client) → client_is_busy c ≡ true → MaySend (client_stage c)
client_permitted c e s sound h = running_permitted c.pending e s sound h

running_stable : (o : Option Running) → IsCallStable (running_stage o)
running_stable None s t h o steps = tt
running_stable (Some x) s t h o steps =
    (program_stable x.program s t h.0 o, program_way_stable x.program s t h.1 o steps)

pub client_stable : (c : Client) → IsCallStable (client_stage c)
client_stable c s t h o steps = running_stable c.pending s t h o steps

running_goes_on : (o : Option Running) → is_some o ≡ true → 0 < (running_stage o).variant
running_goes_on None e = absurd (let k : false ≡ true = e in cc)
running_goes_on (Some x) e = let more = program_goes_on x.program in omega arith

pub client_goes_on : (c : Client) → client_is_busy c ≡ true → 0 < (client_stage c).variant
client_goes_on c e = running_goes_on c.pending e
