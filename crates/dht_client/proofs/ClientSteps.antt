-- The first step of a client.
use Rattle.std.proofs.Common.{◌≡◌, ◌<◌, ◌≤◌, ◌+◌, ◌*◌, ◌^◌, ℕ, List, [], ◌∷◌, length, refl, sym, ◌∙◌, ap, arith, Bool, true, false, subst}
use Rattle.std.specs.Prelude.{Option, Some, None, is_some, nat_lt, ◌==◌, if◌then◌else◌}
use Rattle.dht_types.specs.Calls.{directory_of, first_refusal, refusal_at_once, refusal_at_start, refusal_of_home}
use Rattle.dht_types.specs.Cost.{cost}
use Rattle.dht_types.specs.Gfid.{anchor, home, root, same_gfid}
use Rattle.std.proofs.lemmas.Bool.Decides.{nat_tests}
use Rattle.dht_types.specs.declared.calls.Call.{Call}
use Rattle.dht_types.specs.declared.errors.Errno.{Errno}
use Rattle.dht_types.specs.declared.errors.Errno.TheVariants.{Estale}
use Rattle.dht_types.specs.declared.calls.Call.TheVariants.{Lookup, Create, Mkdir, Unlink, Rmdir, Heal}
use Rattle.dht_types.specs.declared.identifiers.CallNo.{CallNo}
use Rattle.dht_types.specs.declared.locks.Key.TheVariants.{Dir as DirKey}
use Rattle.dht_types.specs.declared.locks.Mode.TheVariants.{Exclusive, Shared}
use Rattle.dht_types.specs.declared.identifiers.Gfid.{Gfid}
use Rattle.dht_brick.specs.declared.requests.NameRequest.TheVariants.{Dirinfo, Look}
use Rattle.dht_brick.specs.declared.requests.Request.TheVariants.{Lock as ALock, OnNames}
use Rattle.dht_xattr.specs.declared.range.Range.{Range}
use Rattle.dht_section.specs.Begins.{Begins}
use Rattle.dht_section.specs.Origin.{ComesFrom}
use Rattle.dht_section.specs.Scene.{Scene}
use Rattle.dht_section.proofs.FirstSection.{starts}
use Rattle.dht_section.specs.Location.{located, prepared_at, section_at}
use Rattle.dht_section.specs.Section.{begun, section_stage}
use Rattle.dht_section.specs.declared.location.Location.{Location}
use Rattle.dht_section.specs.declared.machine.Ask.{Ask}
use Rattle.dht_section.specs.declared.section.Prepared.{Prepared}
use Rattle.dht_resolve.proofs.LookupSteps.{first_knows as lookup_knows, first_steps as lookup_bound}
use Rattle.dht_resolve.proofs.WaySteps.{way_first}
use Rattle.dht_resolve.specs.Cache.{CachedLayout, layout_at}
use Rattle.dht_resolve.specs.Lookup.{aimed_at, first_lookup, holder_in, lookup_fault, lookup_layout, lookup_stage}
use Rattle.dht_resolve.specs.LookupName.{lookup_location}
use Rattle.dht_resolve.specs.declared.lookup.Lookup.{Lookup as ALookup}
use Rattle.dht_resolve.specs.declared.lookup.Lookup.TheVariants.{LookingAtHolder, LookingEverywhere}
use Rattle.dht_heal.proofs.CallSteps.{first_knows as heal_knows}
use Rattle.dht_heal.proofs.HealBeginning.{begin_starts, first_is}
use Rattle.dht_heal.specs.Heal.{IsRoom, asked, first_climb, first_heal, first_room, heal_at, heal_fault, heal_on, heal_stage}
use Rattle.dht_heal.specs.declared.heal.Climb.{Climb}
use Rattle.dht_heal.specs.declared.heal.Heal.TheVariants.{Climbing}
use Rattle.dht_fileops.proofs.CreateSteps.{first_knows as create_knows, first_starts as create_starts}
use Rattle.dht_fileops.proofs.UnlinkSteps.{first_knows as unlink_knows, first_starts as unlink_starts}
use Rattle.dht_dirops.proofs.MkdirSteps.{first_knows as mkdir_knows, first_starts as mkdir_starts}
use Rattle.dht_dirops.proofs.RmdirNotes.{first_knows as rmdir_knows}
use Rattle.dht_client.specs.Client.{client_is_new, client_layout, first_ask, first_claim, first_heal_ask, first_lock, first_look, first_program, first_sought, is_lookup_call, knows_none, most_sought, most_steps, origin_of}
use Rattle.dht_client.specs.Program.{IsLookup, IsNoHeal, IsNoLookup, is_lookup, program_fault, program_layout, program_stage, program_way}
use Rattle.dht_client.specs.declared.calling.Client.{Client}

-- a fact of each lookup that knows the layout
by_aim :
    (P : ALookup → Type 0) (l : Location) (p : Prepared) (learned : Option (List (Option Range)))
    (o : Option ℕ)
    → P (LookingEverywhere l (begun p) learned)
    → ((b : ℕ)
    → P
    (LookingAtHolder (record { location = l; brick = record { 0 = b }; learned = learned })
    p))
    → P (aimed_at l p learned o)
by_aim P l p learned None everywhere at = everywhere
by_aim P l p learned (Some b) everywhere at = by (nat_lt b l.bricks)
  where
    by : (v : Bool) → P (if v then LookingAtHolder (record { location = l; brick = record { 0 = b }; learned = learned }) p else LookingEverywhere l (begun p) learned)
    by true = at b
    by false = everywhere

-- a first lookup is of its name
first_location :
    (l : Location) (known : Option (List (Option Range)))
    → lookup_location (first_lookup l known) ≡ l
first_location l None = refl
first_location l (Some ranges) = by_aim (λ m. lookup_location m ≡ l) l (prepared_at l) None (holder_in ranges l.name) refl (λ b. refl)

-- ---- what it knows

-- the home of a call's directory is a brick, where the call is not refused
home_is : (bricks : ℕ) (d : Gfid) → refusal_of_home bricks d ≡ None → home d < bricks
home_is bricks d e = by (nat_lt (home d) bricks) refl e
  where
    by : (v : Bool) → nat_lt (home d) bricks ≡ v → (if v then None else Some Estale) ≡ None → home d < bricks
    by true k z = grind (arith, nat_tests, k)
    by false k z = absurd (let y : Some Estale ≡ None = z in cc)

later_refusal : (a b : Option Errno) → first_refusal a b ≡ None → b ≡ None
later_refusal None b e = e
later_refusal (Some x) b e = absurd (let z : Some x ≡ None = e in cc)

call_home :
    (bricks : ℕ) (what : Call Gfid) → refusal_at_start bricks what ≡ None
    → home (directory_of what) < bricks
call_home bricks what e = home_is bricks (directory_of what) (later_refusal (refusal_at_once what) (refusal_of_home bricks (directory_of what)) e)

-- the memory of a heal is for bricks of these weights
room_is : (ws : List ℕ) (s : Scene) → s.history.weights ≡ ws → IsRoom (first_room ws) s
room_is ws s e = record { path = refl; weights = sym e }

-- a call is of a client in a run
comes_of :
    (c : Client) (ws : List ℕ) (run : ℕ) (k : CallNo) (what : Call Gfid) (s : Scene) → k.0 < 2 ^ 64
    → Begins c.number (client_is_new c) ws run k what s → ComesFrom (origin_of c run k) s
comes_of c ws run k what s small b = record { run = sym b.run; client = sym b.who; number = sym b.number; small = small }

no_heal :
    (what : Call Gfid) (s : Scene) → s.mine.call ≡ what → ((d : Gfid) → what ≡ Heal d → ⊥)
    → IsNoHeal s
no_heal what s e h = λ d k. h d (sym e ∙ k)

pub first_knows :
    (c : Client) (ws : List ℕ) (run : ℕ) (k : CallNo) (what : Call Gfid) (s : Scene) → k.0 < 2 ^ 64
    → length ws ≤ 32 → refusal_at_start (length ws) what ≡ None
    → Begins c.number (client_is_new c) ws run k what s
    → (program_stage (first_program c ws run k what)).knows s
unfolding program_stage
first_knows c ws run k (Lookup d n) s small few e b = (lookup_knows (located (length ws) d n) (client_layout c d) s (record { count = ap length b.weights; home = call_home (length ws) (Lookup d n) e; deeds = b.fresh }), of_name (client_layout c d) b.call)
  where
    of_name : (known : Option (List (Option Range))) → s.mine.call ≡ Lookup d n → IsLookup (lookup_location (first_lookup (located (length ws) d n) known)) s
    of_name known e = subst (λ (l : Location). IsLookup l s) (sym (first_location (located (length ws) d n) known)) e
first_knows c ws run k (Create d n) s small few e b = (
  create_knows (length ws) d n (origin_of c run k) (first_room ws) s (record {
    count = ap length b.weights;
    home = call_home (length ws) (Create d n) e;
    comes = record { call = b.call; origin_is = comes_of c ws run k (Create d n) s small b };
    memory = room_is ws s b.weights;
    deeds = b.fresh;
  }),
  no_heal (Create d n) s b.call (λ g z. cc),
)
first_knows c ws run k (Mkdir d n) s small few e b = (
  mkdir_knows (length ws) d n (origin_of c run k) (first_room ws) s (record {
    count = ap length b.weights;
    home = call_home (length ws) (Mkdir d n) e;
    call = b.call;
    origin_is = comes_of c ws run k (Mkdir d n) s small b;
    deeds = b.fresh;
    memory = room_is ws s b.weights;
  }),
  no_heal (Mkdir d n) s b.call (λ g z. cc),
)
first_knows c ws run k (Unlink d n) s small few e b = (unlink_knows (length ws) d n s (record { count = ap length b.weights; home = call_home (length ws) (Unlink d n) e; call = b.call; deeds = b.fresh }), no_heal (Unlink d n) s b.call (λ g z. cc))
first_knows c ws run k (Rmdir d n) s small few e b = (rmdir_knows (length ws) d n (client_layout c d) s (record { count = ap length b.weights; home = call_home (length ws) (Rmdir d n) e; call = b.call; deeds = b.fresh }), no_heal (Rmdir d n) s b.call (λ g z. cc))
first_knows c ws run k (Heal d) s small few e b = heal_knows ws (length ws) d s (record {
  weighed = b.weights;
  count = ap length b.weights;
  few = few;
  home = call_home (length ws) (Heal d) e;
  call = b.call;
  deeds = b.fresh;
})

-- ---- where it is on the way of a first lookup

no_layout : (xs : List CachedLayout) (d : Gfid) → knows_none xs ≡ true → layout_at xs d ≡ None
no_layout [] d e = refl
no_layout (x ∷ xs) d e = absurd (let z : false ≡ true = e in cc)

no_lookup :
    (what : Call Gfid) (s : Scene) → s.mine.call ≡ what
    → ((d : Gfid) (n : List ℕ) → what ≡ Lookup d n → ⊥) → IsNoLookup s
no_lookup what s e h = λ d n k. h d n (sym e ∙ k)

-- a client that is new knows no layout
pub first_way :
    (c : Client) (ws : List ℕ) (run : ℕ) (k : CallNo) (what : Call Gfid) (s : Scene)
    → Begins c.number (client_is_new c) ws run k what s
    → program_way (first_program c ws run k what) s
unfolding program_way
first_way c ws run k (Lookup d n) s b = way_first (located (length ws) d n) (client_layout c d) s b.steps (λ first. no_layout c.cache d (b.first first))
first_way c ws run k (Create d n) s b = no_lookup (Create d n) s b.call (λ g m z. cc)
first_way c ws run k (Mkdir d n) s b = no_lookup (Mkdir d n) s b.call (λ g m z. cc)
first_way c ws run k (Unlink d n) s b = no_lookup (Unlink d n) s b.call (λ g m z. cc)
first_way c ws run k (Rmdir d n) s b = no_lookup (Rmdir d n) s b.call (λ g m z. cc)
first_way c ws run k (Heal d) s b = no_lookup (Heal d) s b.call (λ g m z. cc)

-- ---- what it asks and claims, and how many requests it sends

lookup_bound_by :
    (known : Option (List (Option Range))) (bricks : ℕ) (d : Gfid) (n : List ℕ)
    → (lookup_stage (first_lookup (located bricks d n) known)).variant
    ≤ most_sought (is_some known) bricks
lookup_bound_by None bricks d n = lookup_bound (located bricks d n) None
lookup_bound_by (Some ranges) bricks d n = lookup_bound (located bricks d n) (Some ranges)

pub first_steps :
    (c : Client) (ws : List ℕ) (run : ℕ) (k : CallNo) (what : Call Gfid)
    → (program_stage (first_program c ws run k what)).variant
    ≤ most_steps (is_some (client_layout c (directory_of what))) (length ws) what
unfolding program_stage
first_steps c ws run k (Lookup d n) = let v = lookup_bound_by (client_layout c d) (length ws) d n in omega arith
first_steps c ws run k (Create d n) = let v = (create_starts (length ws) d n (origin_of c run k) (first_room ws)).variant in omega arith
first_steps c ws run k (Mkdir d n) = let v = (mkdir_starts (length ws) d n (origin_of c run k) (first_room ws)).variant in omega arith
first_steps c ws run k (Unlink d n) = let v = (unlink_starts (length ws) d n).variant in omega arith
first_steps c ws run k (Rmdir d n) =
    let v = lookup_bound_by (client_layout c d) (length ws) d n in
    let e = ap (λ (l : Location). l.bricks) (first_location (located (length ws) d n) (client_layout c d)) in
    omega arith
first_steps c ws run k (Heal d) = let v = begin_starts (first_room ws) (length ws) d in omega arith

sought_cost : (known : Bool) (n : ℕ) → most_sought known n ≤ 2 * n + 7
sought_cost true n = omega arith
sought_cost false n = omega arith

pub steps_cost : (known : Bool) (n : ℕ) (what : Call Gfid) → most_steps known n what ≤ cost n what
steps_cost known n (Lookup d m) = let v = sought_cost known n in omega arith
steps_cost known n (Create d m) = omega arith
steps_cost known n (Mkdir d m) = omega arith
steps_cost known n (Unlink d m) = omega arith
steps_cost known n (Rmdir d m) = let v = sought_cost known n in omega arith
steps_cost known n (Heal d) = omega arith

section_asked :
    (d : Gfid) (n ws : List ℕ)
    → (section_stage (section_at (located (length ws) d n))).asks ≡ first_lock d ws
section_asked d n ws = ap (λ q. let a : Ask = record { brick = (first_lock d ws).brick; request = q } in a) (starts (length ws) d Shared n).request

looked_first :
    (d : Gfid) (n ws : List ℕ) (o : Option ℕ)
    → (lookup_stage
    (aimed_at (located (length ws) d n) (prepared_at (located (length ws) d n)) None o)).asks
    ≡ first_look d n ws o
looked_first d n ws None = section_asked d n ws
looked_first d n ws (Some b) = by (nat_lt b (length ws))
  where
    by : (v : Bool) → (lookup_stage (if v then LookingAtHolder (record { location = located (length ws) d n; brick = record { 0 = b }; learned = None }) (prepared_at (located (length ws) d n)) else LookingEverywhere (located (length ws) d n) (section_at (located (length ws) d n)) None)).asks ≡ (if v then record { brick = record { 0 = b }; request = OnNames (Look d n) } else first_lock d ws)
    by true = refl
    by false = section_asked d n ws

lookup_asked :
    (known : Option (List (Option Range))) (d : Gfid) (n ws : List ℕ)
    → (lookup_stage (first_lookup (located (length ws) d n) known)).asks ≡ first_sought known ws d n
lookup_asked None d n ws = refl
lookup_asked (Some ranges) d n ws = looked_first d n ws (holder_in ranges n)

-- a heal begins at this place of its path
heal_asked_at :
    (c : Climb) (ws : List ℕ) → c.bricks ≡ length ws
    → (heal_stage (heal_on c)).asks ≡ first_heal_ask (asked c) ws
heal_asked_at c ws e = by (same_gfid (asked c) root)
  where
    by : (v : Bool) → (heal_stage (if v then heal_at c else Climbing c)).asks ≡ (if v then record { brick = record { 0 = if length ws == 0 then 0 else anchor (asked c) (length ws) }; request = ALock (DirKey (asked c)) Exclusive } else record { brick = record { 0 = home (asked c) }; request = OnNames (Dirinfo (asked c)) })
    by true = ap (λ (n : ℕ). let a : Ask = record { brick = record { 0 = if n == 0 then 0 else anchor (asked c) n }; request = ALock (DirKey (asked c)) Exclusive } in a) e
    by false = refl

heal_asked :
    (d : Gfid) (ws : List ℕ)
    → (heal_stage (first_heal (first_room ws) (length ws) d)).asks ≡ first_heal_ask d ws
heal_asked d ws = heal_asked_at (first_climb (first_room ws) (length ws) d) ws refl ∙ ap (λ (g : Gfid). first_heal_ask g ws) (first_is (first_room ws) d refl)

pub first_asked :
    (c : Client) (ws : List ℕ) (run : ℕ) (k : CallNo) (what : Call Gfid)
    → (program_stage (first_program c ws run k what)).asks
    ≡ first_ask (client_layout c (directory_of what)) ws what
unfolding program_stage
first_asked c ws run k (Lookup d n) = lookup_asked (client_layout c d) d n ws
first_asked c ws run k (Create d n) = section_asked d n ws
first_asked c ws run k (Mkdir d n) = section_asked d n ws
first_asked c ws run k (Unlink d n) = section_asked d n ws
first_asked c ws run k (Rmdir d n) = lookup_asked (client_layout c d) d n ws
first_asked c ws run k (Heal d) = heal_asked d ws

lookup_claimed :
    (known : Option (List (Option Range))) (l : Location)
    → (lookup_stage (first_lookup l known)).claims
    ≡ first_claim (lookup_stage (first_lookup l known)).asks
lookup_claimed None l = refl
lookup_claimed (Some ranges) l = by_aim (λ c. (lookup_stage c).claims ≡ first_claim (lookup_stage c).asks) l (prepared_at l) None (holder_in ranges l.name) (starts l.bricks l.directory Shared l.name).claims (λ b. refl)

heal_claimed :
    (c : Climb) → (heal_stage (heal_on c)).claims ≡ first_claim (heal_stage (heal_on c)).asks
heal_claimed c = by (same_gfid (asked c) root)
  where
    by : (v : Bool) → (heal_stage (if v then heal_at c else Climbing c)).claims ≡ first_claim (heal_stage (if v then heal_at c else Climbing c)).asks
    by true = refl
    by false = refl

pub first_claimed :
    (c : Client) (ws : List ℕ) (run : ℕ) (k : CallNo) (what : Call Gfid)
    → (program_stage (first_program c ws run k what)).claims
    ≡ first_claim (program_stage (first_program c ws run k what)).asks
unfolding program_stage
first_claimed c ws run k (Lookup d n) = lookup_claimed (client_layout c d) (located (length ws) d n)
first_claimed c ws run k (Create d n) = (starts (length ws) d Shared n).claims
first_claimed c ws run k (Mkdir d n) = (starts (length ws) d Shared n).claims
first_claimed c ws run k (Unlink d n) = (starts (length ws) d Shared n).claims
first_claimed c ws run k (Rmdir d n) = lookup_claimed (client_layout c d) (located (length ws) d n)
first_claimed c ws run k (Heal d) = heal_claimed (first_climb (first_room ws) (length ws) d)

lookup_alone :
    (known : Option (List (Option Range))) (l : Location)
    → (lookup_stage (first_lookup l known)).claims.copy ≡ None
lookup_alone None l = refl
lookup_alone (Some ranges) l = by_aim (λ c. (lookup_stage c).claims.copy ≡ None) l (prepared_at l) None (holder_in ranges l.name) refl (λ b. refl)

heal_alone : (c : Climb) → (heal_stage (heal_on c)).claims.copy ≡ None
heal_alone c = by (same_gfid (asked c) root)
  where
    by : (v : Bool) → (heal_stage (if v then heal_at c else Climbing c)).claims.copy ≡ None
    by true = refl
    by false = refl

pub first_copy :
    (c : Client) (ws : List ℕ) (run : ℕ) (k : CallNo) (what : Call Gfid)
    → (program_stage (first_program c ws run k what)).claims.copy ≡ None
unfolding program_stage
first_copy c ws run k (Lookup d n) = lookup_alone (client_layout c d) (located (length ws) d n)
first_copy c ws run k (Create d n) = refl
first_copy c ws run k (Mkdir d n) = refl
first_copy c ws run k (Unlink d n) = refl
first_copy c ws run k (Rmdir d n) = lookup_alone (client_layout c d) (located (length ws) d n)
first_copy c ws run k (Heal d) = heal_alone (first_climb (first_room ws) (length ws) d)

-- ---- no brick has failed it, and it has learned nothing

lookup_new :
    (known : Option (List (Option Range))) (l : Location)
    → (lookup_fault (first_lookup l known) ≡ None) × (lookup_layout (first_lookup l known) ≡ None)
lookup_new None l = (refl, refl)
lookup_new (Some ranges) l = by_aim (λ c. (lookup_fault c ≡ None) × (lookup_layout c ≡ None)) l (prepared_at l) None (holder_in ranges l.name) (refl, refl) (λ b. (refl, refl))

heal_new : (c : Climb) → heal_fault (heal_on c) ≡ None
heal_new c = by (same_gfid (asked c) root)
  where
    by : (v : Bool) → heal_fault (if v then heal_at c else Climbing c) ≡ None
    by true = refl
    by false = refl

pub first_fault :
    (c : Client) (ws : List ℕ) (run : ℕ) (k : CallNo) (what : Call Gfid)
    → program_fault (first_program c ws run k what) ≡ None
unfolding program_fault
first_fault c ws run k (Lookup d n) = (lookup_new (client_layout c d) (located (length ws) d n)).0
first_fault c ws run k (Create d n) = refl
first_fault c ws run k (Mkdir d n) = refl
first_fault c ws run k (Unlink d n) = refl
first_fault c ws run k (Rmdir d n) = (lookup_new (client_layout c d) (located (length ws) d n)).0
first_fault c ws run k (Heal d) = heal_new (first_climb (first_room ws) (length ws) d)

pub first_learned :
    (c : Client) (ws : List ℕ) (run : ℕ) (k : CallNo) (what : Call Gfid)
    → program_layout (first_program c ws run k what) ≡ None
unfolding program_layout
first_learned c ws run k (Lookup d n) = (lookup_new (client_layout c d) (located (length ws) d n)).1
first_learned c ws run k (Create d n) = refl
first_learned c ws run k (Mkdir d n) = refl
first_learned c ws run k (Unlink d n) = refl
first_learned c ws run k (Rmdir d n) = (lookup_new (client_layout c d) (located (length ws) d n)).1
first_learned c ws run k (Heal d) = refl

pub first_verb :
    (c : Client) (ws : List ℕ) (run : ℕ) (k : CallNo) (what : Call Gfid)
    → is_lookup (first_program c ws run k what) ≡ is_lookup_call what
unfolding is_lookup
first_verb c ws run k (Lookup d n) = refl
first_verb c ws run k (Create d n) = refl
first_verb c ws run k (Mkdir d n) = refl
first_verb c ws run k (Unlink d n) = refl
first_verb c ws run k (Rmdir d n) = refl
first_verb c ws run k (Heal d) = refl
