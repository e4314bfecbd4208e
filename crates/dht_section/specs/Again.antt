-- Requests that are sent again.
use Rattle.std.specs.Prelude.{◌≡◌, Bool, true, false, None, List, []}
use Rattle.dht_types.specs.History.{is_carried}
use Rattle.dht_brick.specs.Kinds.{reply_kind}
use Rattle.dht_brick.specs.declared.requests.FileRequest.TheVariants.{Drop}
use Rattle.dht_brick.specs.declared.requests.NameRequest.TheVariants.{Look, Dirinfo, SetLayout, Create, MakeLinkto, DropLinkto, Unlink}
use Rattle.dht_brick.specs.declared.requests.Request.{Request}
use Rattle.dht_brick.specs.declared.requests.Request.TheVariants.{Seal, OnNames, OnFile}
use Rattle.dht_brick.specs.declared.replies.Reply.{Reply}
use Rattle.dht_brick.specs.declared.replies.Reply.TheVariants.{Ok as Carried, Refused as Declined}
use Rattle.dht_brick.specs.declared.replies.Why.TheVariants.{Open}
use Rattle.dht_section.specs.Claims.{Lock}
use Rattle.dht_section.specs.Replies.{fault_of, is_shown}
use Rattle.dht_section.specs.Stages.{Stage}

-- a file was sealed, or is open
abbrev pub is_sealing : Reply → Bool
is_sealing (Carried given) = true
is_sealing (Declined (Open n)) = true
is_sealing r = false

-- the request was carried out or refused
abbrev pub is_decided : Reply → Bool
is_decided (Carried given) = true
is_decided (Declined why) = true
is_decided r = false

-- the reply is no answer to a layout that is set, a create, an unlink, a linkto that is laid
-- or dropped, a seal or a drop, to a request for a directory's record, or to a look by a call
-- that claims no lock: the call has to wait, or is refused for a reason that it does not name
abbrev pub IsNoAnswer : Request → List Lock → Reply → Type 0
IsNoAnswer (OnNames (SetLayout d value)) ls r = is_carried (reply_kind r) ≡ false
IsNoAnswer (OnNames (Create d n f)) ls r = is_carried (reply_kind r) ≡ false
IsNoAnswer (OnNames (Unlink d n f)) ls r = is_carried (reply_kind r) ≡ false
IsNoAnswer (OnNames (MakeLinkto d n value)) ls r = is_carried (reply_kind r) ≡ false
IsNoAnswer (OnNames (DropLinkto d n)) ls r = is_carried (reply_kind r) ≡ false
IsNoAnswer (OnNames (Dirinfo d)) ls r = is_shown r ≡ false
IsNoAnswer (OnNames (Look d n)) [] r = is_shown r ≡ false
IsNoAnswer (Seal f) ls r = is_sealing r ≡ false
IsNoAnswer (OnFile (Drop f)) ls r = is_decided r ≡ false
IsNoAnswer q ls r = ⊥

-- and no error of the brick's
abbrev pub IsUnanswered : Stage → Reply → Type 0
IsUnanswered x r = (fault_of r ≡ None) × IsNoAnswer x.asks.request x.claims.locks r
