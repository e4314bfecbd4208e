-- What one look shows of a name, and that it is answered
-- at once where it shows a file or a directory.
use Rattle.std.specs.Prelude.{ℕ, ◌≡◌, Option, Some, None, List, [], ◌∷◌}
use Rattle.dht_types.specs.Linkto.{linked_brick}
use Rattle.dht_types.specs.Volume.{replay_names}
use Rattle.dht_types.specs.declared.calls.Answer.TheVariants as answer
use Rattle.dht_types.specs.declared.identifiers.Gfid.{Gfid}
use Rattle.dht_types.specs.declared.stored.Main.{Main}
use Rattle.dht_types.specs.declared.stored.Main.TheVariants as main
use Rattle.dht_brick.specs.declared.requests.NameRequest.TheVariants.{Look}
use Rattle.dht_brick.specs.declared.requests.Request.{Request}
use Rattle.dht_brick.specs.declared.requests.Request.TheVariants.{OnNames}
use Rattle.dht_brick.specs.declared.replies.Reply.{Reply}
use Rattle.dht_section.specs.Claims.{Lock}
use Rattle.dht_section.specs.Ended.{found_at}
use Rattle.dht_section.specs.Looks.{main_shown}
use Rattle.dht_section.specs.Replies.{file_shown}
use Rattle.dht_section.specs.Stages.{Stage, MatchTurn}
use Rattle.dht_section.specs.declared.ended.Ended.{Ended}
use Rattle.dht_section.specs.declared.machine.Finish.{Finish}
use Rattle.dht_section.specs.declared.machine.Turn.{Turn}
use Rattle.dht_resolve.specs.declared.lookup.Shown.{Shown}
use Rattle.dht_resolve.specs.declared.lookup.Shown.TheVariants.{Nothing, Dir, File, Leads}

-- a linkto of this value leads to a brick of the volume, or shows nothing
abbrev pub leads_to : Option ℕ → Shown
leads_to None = Nothing
leads_to (Some b) = Leads (record { 0 = b })

abbrev pub leads : ℕ → List ℕ → Shown
leads bricks value = leads_to (linked_brick (replay_names bricks) value)

-- what the main part of a name shows, in a volume of so many bricks
abbrev pub shown_main : ℕ → Option Main → Shown
shown_main bricks None = Nothing
shown_main bricks (Some (main.Dir g)) = Dir g
shown_main bricks (Some (main.File f over)) = File f
shown_main bricks (Some (main.Linkto value)) = leads bricks value

abbrev pub shown_as : ℕ → Reply → Shown
shown_as bricks r = shown_main bricks (main_shown r)

-- ---- what is answered at once

-- the request is a look at a name by a call that claims no lock
abbrev pub IsFreeLook : Request → List Lock → Type 0
IsFreeLook (OnNames (Look d n)) [] = Unit {0}
IsFreeLook (OnNames (Look d n)) (l ∷ ls) = ⊥
IsFreeLook q ls = ⊥

-- and the reply to it shows this file, or this directory
abbrev pub ShowsFile : Stage → Reply → Gfid → Type 0
ShowsFile x r f = IsFreeLook x.asks.request x.claims.locks × (file_shown r ≡ Some f)

abbrev pub ShowsDir : Stage → Reply → Gfid → Type 0
ShowsDir x r g = IsFreeLook x.asks.request x.claims.locks × (main_shown r ≡ Some (main.Dir g))

-- the answer that the directory is there, at this line
abbrev pub dir_at : Gfid → ℕ → Finish
dir_at g at = record { answer = answer.Dir g; at = Some at }

-- a turn ends with the answer that the file is there, or the directory
abbrev pub IsFound : {M : Type 0} → Gfid → ℕ → Turn M Ended → Type 0
IsFound f at turn = MatchTurn turn (λ n. ⊥) (λ d. d.finish ≡ found_at f at)

abbrev pub IsDirFound : {M : Type 0} → Gfid → ℕ → Turn M Ended → Type 0
IsDirFound g at turn = MatchTurn turn (λ n. ⊥) (λ d. d.finish ≡ dir_at g at)
