-- What a release asks, claims and knows, and how it ends.
use Rattle.std.specs.Prelude.{◌≡◌, ◌-◌, nat_lt, if◌then◌else◌, length}
use Rattle.dht_section.specs.declared.machine.Turn.{Turn}
use Rattle.dht_section.specs.declared.machine.Turn.TheVariants.{Go, Done}
use Rattle.dht_section.specs.Claims.{no_claim}
use Rattle.dht_section.specs.Scene.{Scene}
use Rattle.dht_section.specs.Section.{IsFresh, all_claimed, last_lock, unlocking_stage}
use Rattle.dht_section.specs.Stages.{Stage, Ending}
use Rattle.dht_section.specs.Want.{IsOrdered}
use Rattle.dht_section.specs.declared.release.Release.{Release}
use Rattle.dht_section.specs.declared.section.Held.{Held}
use Rattle.dht_section.specs.declared.section.Prepared.{Prepared}

-- the memory of a section, with which it begins anew
abbrev pub memory_of : Release → Prepared
memory_of m = record { scope = m.scope; looks = m.looks }

-- a section may begin with this memory: the call has done no step
pub record CanBegin (p : Prepared) (s : Scene) : Type 0 where
  pub order : IsOrdered p.scope
  pub fresh : IsFresh p.scope s
  pub room : length p.looks ≡ length p.scope.names

-- it gives back the locks up to this one, and then the section may begin anew
abbrev pub release_stage : Release → Stage
release_stage m = unlocking_stage m.scope m.place (CanBegin (memory_of m))

-- then nothing is claimed
abbrev pub released_ending : Prepared → Ending
released_ending p = record { claims = no_claim; earned = CanBegin p }

-- the release of a section that is held
abbrev pub release_of : Held → Release
release_of h = record { scope = h.scope; looks = h.looks; place = last_lock h.scope }

-- it goes on with the next lock, or hands out the memory
abbrev pub release_after : Release → Turn Release Prepared
release_after m =
    if nat_lt 0 m.place
    then Go (record { scope = m.scope; looks = m.looks; place = m.place - 1 })
    else Done (memory_of m)

-- the release begins where the section is held
pub record Releases (h : Held) (s : Scene) : Type 0 where
  pub claims : (release_stage (release_of h)).claims ≡ all_claimed h.scope
  pub knows : (release_stage (release_of h)).knows s
  pub variant : (release_stage (release_of h)).variant ≡ length h.scope.keys
