use Rattle.std.proofs.Common.{◌≡◌, ◌⊎◌, inl, inr, subst, sym}
use Rattle.dht_brick.specs.declared.requests.FileRequest.{FileRequest}
use Rattle.dht_files.specs.Records.{files_in}
use Rattle.dht_files.specs.Served.{CarriesOut}
use Rattle.dht_files.proofs.records.Files.carry_out.Goals as goal

-- what holds of two requests holds of the one that is either
either : (P : FileRequest → Type 0) (q a b : FileRequest) → (q ≡ a) ⊎ (q ≡ b) → P a → P b → P q
either P q a b (inl e) x y = subst P (sym e) x
either P q a b (inr e) x y = subst P (sym e) y

pub returns-in-Write-clause-row : goal.returns-in-Write-clause-row
returns-in-Write-clause-row g c =
    let t = g.S.Slots.tables c.args.slots.now in
    either (λ q. CarriesOut q t (files_in c.args.self.now) c.write.result t (files_in c.write.new.self)) c.args.request.now _ _ c.in-Write.is (c.write.ensures.write t) (c.write.ensures.locked t)

pub returns-in-Truncate-clause-row : goal.returns-in-Truncate-clause-row
returns-in-Truncate-clause-row g c =
    let t = g.S.Slots.tables c.args.slots.now in
    either (λ q. CarriesOut q t (files_in c.args.self.now) c.truncate.result t (files_in c.truncate.new.self)) c.args.request.now _ _ c.in-Truncate.is (c.truncate.ensures.truncate t) (c.truncate.ensures.locked t)
