-- What a drop comes to where it is carried out.
use Rattle.std.proofs.Common.{◌≡◌, Bool, true, false, List, ℕ, refl, sym, ap}
use Rattle.std.specs.Prelude.{Option, Some, None, ◌==◌, if◌then◌else◌}
use Rattle.dht_types.specs.declared.identifiers.Gfid.{Gfid}
use Rattle.dht_types.specs.declared.stored.Record.{Record}
use Rattle.dht_types.specs.declared.stored.Record.TheVariants.{Live, Moving, Standby as Copied, Forward}
use Rattle.dht_guard.specs.FileTable.{file_cell_of}
use Rattle.dht_brick.specs.Contents.{Store, file}
use Rattle.dht_brick.specs.FileRows.{file_row, guarded, on_record}
use Rattle.dht_brick.specs.Kinds.{row_of}
use Rattle.dht_brick.specs.Links.{links}
use Rattle.dht_brick.specs.Outcome.{Outcome, Do, Refuse, left_by}
use Rattle.dht_brick.specs.Parts.{is_live, state_of, without_file}
use Rattle.dht_brick.specs.declared.replies.Given.{Given}
use Rattle.dht_brick.specs.declared.replies.Given.TheVariants as given
use Rattle.dht_brick.specs.declared.replies.Why.TheVariants as why
use Rattle.dht_brick.specs.declared.requests.FileRequest.TheVariants.{Drop}

-- the file is live on the brick, and its record goes
pub record Drops (s : Store) (f : Gfid) (o : Option Record) (new : Store) : Type 0 where
  pub live : is_live o ≡ true
  pub store : new ≡ without_file s f

-- by the file's record, and whether it has no link on the brick
abbrev dropped : Store → Gfid → Option Record → Bool → Outcome Store
dropped s f o v = guarded (file_cell_of (row_of (Drop f)) (state_of o)) o (on_record o (λ x. if v then Do given.Nothing (without_file s f) else Refuse (why.Links (links s.slots f))))

dropped_by :
    (s : Store) (f : Gfid) (gives : Given) (new : Store) (o : Option Record) (v : Bool)
    → dropped s f o v ≡ Do gives new → Drops s f o new
dropped_by s f gives new (Some (Live hop bytes)) true done = record { live = refl; store = ap (λ (y : Outcome Store). left_by y s) (sym done) }
dropped_by s f gives new (Some (Live hop bytes)) false done = absurd (let z : Refuse (why.Links (links s.slots f)) ≡ Do gives new = done in cc)
dropped_by s f gives new (Some (Moving hop dest bytes)) v done = absurd (let z : Refuse (why.Moving dest) ≡ Do gives new = done in cc)
dropped_by s f gives new (Some (Copied c)) v done = absurd (let z : Refuse (why.Standby c.source c.hop) ≡ Do gives new = done in cc)
dropped_by s f gives new (Some (Forward hop brick)) v done = absurd (let z : Refuse (why.Forward brick hop) ≡ Do gives new = done in cc)
dropped_by s f gives new None v done = absurd (let z : Refuse why.Absent ≡ Do gives new = done in cc)

pub drops :
    (bricks : List (List ℕ)) (s : Store) (f : Gfid) (gives : Given) (new : Store)
    → file_row bricks (Drop f) s ≡ Do gives new → Drops s f (file s f) new
drops bricks s f gives new done = dropped_by s f gives new (file s f) (links s.slots f == 0) done
