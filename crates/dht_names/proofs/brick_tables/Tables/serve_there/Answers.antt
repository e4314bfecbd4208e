use Rattle.std.proofs.Common.{subst, sym, refl}
use Rattle.dht_brick.specs.Links.{is_occupied}
use Rattle.dht_brick.specs.NameRows.{slot_change, if_empty}
use Rattle.dht_brick.specs.declared.requests.NameRequest.TheVariants.{MakeDir, DropDir, MakeLinkto, DropLinkto, Uncontest, DropStandLink, Swap, PromoteLink}
use Rattle.dht_types.specs.declared.names.EntryKey.{EntryKey}
use Rattle.dht_names.specs.Kept.{tables_in}
use Rattle.dht_names.specs.Served.{MeetsRow}
use Rattle.dht_brick.specs.declared.requests.NameRequest.{NameRequest}
use Rattle.dht_names.proofs.RowLemmas.{answered, key_of}
use Rattle.dht_names.proofs.brick_tables.Tables.serve_there.Goals as goal

pub returns-in-Page-clause-row : goal.returns-in-Page-clause-row
returns-in-Page-clause-row g c =
    let f = g.F.FileRecords.files c.args.files.now in
    subst (λ q. MeetsRow q (tables_in c.args.self.now) f c.page.result (tables_in c.args.self.now) f) (sym c.in-Page.is) (c.page.ensures f)

pub returns-in-Dirinfo-clause-row : goal.returns-in-Dirinfo-clause-row
returns-in-Dirinfo-clause-row g c =
    let f = g.F.FileRecords.files c.args.files.now in
    subst (λ q. MeetsRow q (tables_in c.args.self.now) f c.dirinfo.result (tables_in c.args.self.now) f) (sym c.in-Dirinfo.is) (c.dirinfo.ensures f)

pub returns-in-SetLayout-clause-row : goal.returns-in-SetLayout-clause-row
returns-in-SetLayout-clause-row g c =
    let f = g.F.FileRecords.files c.args.files.now in
    subst (λ q. MeetsRow q (tables_in c.args.self.now) f c.set_layout.result (tables_in c.set_layout.new.self) f) (sym c.in-SetLayout.is) (c.set_layout.ensures f)

pub returns-in-MakeDir-clause-row : goal.returns-in-MakeDir-clause-row
returns-in-MakeDir-clause-row g c =
    let t = tables_in c.args.self.now in
    let made : EntryKey → NameRequest = λ k. MakeDir k.dir k.name c.in-MakeDir.made c.in-MakeDir.depth c.in-MakeDir.value in
    answered t (tables_in c.make_dir.new.self) (g.F.FileRecords.files c.args.files.now) c.make_dir.result c.args.request.now c.requires c.slot_key-key.result _ _ (key_of c.slot_key-key.result c.args.request.now _ c.slot_key-key.ensures c.in-MakeDir.is)
    made (λ k s. slot_change t.bricks (made k) s (k.dir, k.name)) c.in-MakeDir.is refl refl c.make_dir.ensures

pub returns-in-MakeLinkto-clause-row : goal.returns-in-MakeLinkto-clause-row
returns-in-MakeLinkto-clause-row g c =
    let t = tables_in c.args.self.now in
    let made : EntryKey → NameRequest = λ k. MakeLinkto k.dir k.name c.in-MakeLinkto.value in
    answered t (tables_in c.make_linkto.new.self) (g.F.FileRecords.files c.args.files.now) c.make_linkto.result c.args.request.now c.requires c.slot_key-key.result _ _ (key_of c.slot_key-key.result c.args.request.now _ c.slot_key-key.ensures c.in-MakeLinkto.is)
    made (λ k s. slot_change t.bricks (made k) s (k.dir, k.name)) c.in-MakeLinkto.is refl refl c.make_linkto.ensures

pub returns-in-DropLinkto-clause-row : goal.returns-in-DropLinkto-clause-row
returns-in-DropLinkto-clause-row g c =
    let t = tables_in c.args.self.now in
    let made : EntryKey → NameRequest = λ k. DropLinkto k.dir k.name in
    answered t (tables_in c.drop_linkto.new.self) (g.F.FileRecords.files c.args.files.now) c.drop_linkto.result c.args.request.now c.requires c.slot_key-key.result _ _ (key_of c.slot_key-key.result c.args.request.now _ c.slot_key-key.ensures c.in-DropLinkto.is)
    made (λ k s. slot_change t.bricks (made k) s (k.dir, k.name)) c.in-DropLinkto.is refl refl c.drop_linkto.ensures.change

pub returns-in-Uncontest-clause-row : goal.returns-in-Uncontest-clause-row
returns-in-Uncontest-clause-row g c =
    let t = tables_in c.args.self.now in
    let made : EntryKey → NameRequest = λ k. Uncontest k.dir k.name c.in-Uncontest.file in
    answered t (tables_in c.uncontest.new.self) (g.F.FileRecords.files c.args.files.now) c.uncontest.result c.args.request.now c.requires c.slot_key-key.result _ _ (key_of c.slot_key-key.result c.args.request.now _ c.slot_key-key.ensures c.in-Uncontest.is)
    made (λ k s. slot_change t.bricks (made k) s (k.dir, k.name)) c.in-Uncontest.is refl refl c.uncontest.ensures.change

pub returns-in-DropStandLink-clause-row : goal.returns-in-DropStandLink-clause-row
returns-in-DropStandLink-clause-row g c =
    let t = tables_in c.args.self.now in
    let made : EntryKey → NameRequest = λ k. DropStandLink k.dir k.name c.in-DropStandLink.file in
    answered t (tables_in c.drop_stand_link.new.self) (g.F.FileRecords.files c.args.files.now) c.drop_stand_link.result c.args.request.now c.requires c.slot_key-key.result _ _ (key_of c.slot_key-key.result c.args.request.now _ c.slot_key-key.ensures c.in-DropStandLink.is)
    made (λ k s. slot_change t.bricks (made k) s (k.dir, k.name)) c.in-DropStandLink.is refl refl c.drop_stand_link.ensures.change

pub returns-in-Swap-clause-row : goal.returns-in-Swap-clause-row
returns-in-Swap-clause-row g c =
    let t = tables_in c.args.self.now in
    let made : EntryKey → NameRequest = λ k. Swap k.dir k.name c.in-Swap.file c.in-Swap.value in
    answered t (tables_in c.swap.new.self) (g.F.FileRecords.files c.args.files.now) c.swap.result c.args.request.now c.requires c.slot_key-key.result _ _ (key_of c.slot_key-key.result c.args.request.now _ c.slot_key-key.ensures c.in-Swap.is)
    made (λ k s. slot_change t.bricks (made k) s (k.dir, k.name)) c.in-Swap.is refl refl c.swap.ensures.change

pub returns-in-PromoteLink-clause-row : goal.returns-in-PromoteLink-clause-row
returns-in-PromoteLink-clause-row g c =
    let t = tables_in c.args.self.now in
    let made : EntryKey → NameRequest = λ k. PromoteLink k.dir k.name c.in-PromoteLink.file in
    answered t (tables_in c.promote_link.new.self) (g.F.FileRecords.files c.args.files.now) c.promote_link.result c.args.request.now c.requires c.slot_key-key.result _ _ (key_of c.slot_key-key.result c.args.request.now _ c.slot_key-key.ensures c.in-PromoteLink.is)
    made (λ k s. slot_change t.bricks (made k) s (k.dir, k.name)) c.in-PromoteLink.is refl refl c.promote_link.ensures.change

pub returns-in-DropDir-clause-row : goal.returns-in-DropDir-clause-row
returns-in-DropDir-clause-row g c =
    let t = tables_in c.args.self.now in
    let made : EntryKey → NameRequest = λ k. DropDir k.dir k.name c.in-DropDir.dir in
    answered t (tables_in c.drop_dir.new.self) (g.F.FileRecords.files c.args.files.now) c.drop_dir.result c.args.request.now c.requires c.slot_key-key.result _ _ (key_of c.slot_key-key.result c.args.request.now _ c.slot_key-key.ensures c.in-DropDir.is)
    made (λ k s. if_empty (is_occupied s.slots c.in-DropDir.dir) (slot_change t.bricks (made k) s (k.dir, k.name))) c.in-DropDir.is refl refl c.drop_dir.ensures
