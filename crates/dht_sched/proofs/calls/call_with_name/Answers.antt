use Rattle.std.proofs.Common.{rules, ◌≢◌, codes}
use Rattle.dht_sched.proofs.LineLemmas.{no_verb_with_name}
use Rattle.dht_sched.proofs.calls.call_with_name.Goals as goal

pub returns-in_default : goal.returns-in_default
returns-in_default c =
    let verb = c.args.verb.now in
    let lookup : verb ≢ codes "lookup" = search rules in
    let create : verb ≢ codes "create" = search rules in
    let mkdir : verb ≢ codes "mkdir" = search rules in
    let unlink : verb ≢ codes "unlink" = search rules in
    let rmdir : verb ≢ codes "rmdir" = search rules in
    no_verb_with_name verb c.args.name lookup create mkdir unlink rmdir
