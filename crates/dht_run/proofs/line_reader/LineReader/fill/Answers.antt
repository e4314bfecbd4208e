use Rattle.std.proofs.Common.{◌+◌, ◌≤◌, length, take, drop, arith}
use Rattle.dht_run.proofs.HeldBytes.{filled_same, filled_more, length-part}
use Rattle.dht_run.proofs.line_reader.LineReader.fill.Goals as goal

pub returns-in-Bytes-clause-adds : goal.returns-in-Bytes-clause-adds
returns-in-Bytes-clause-adds g c =
    let r = c.self.inside in
    let moved = c.make_room-self-inside in
    let filled = c.read_at.new.buffer in
    let within : moved.result + r.held + c.in-Bytes.count ≤ length filled = omega (arith, moved.auto.buffer, c.deref_mut.ensures.len, c.read_at.auto.buffer, c.deref_mut-2.ensures.len, c.in-Bytes.ensures.within, c.min-room.ensures, c.self.invariant.size, moved.ensures.room) in
    rw (← c.self.view_is) (record {
      added = take c.in-Bytes.count (drop (moved.result + r.held) filled);
      many = length-part filled (moved.result + r.held) c.in-Bytes.count within;
      held = filled_more r.buffer.items _ _ _ filled _ _ r.buffer.len r.start moved.result r.held c.in-Bytes.count c.deref_mut.ensures.value moved.auto.buffer r.buffer.ok.0
          c.deref_mut-2.ensures.value c.read_at.auto.buffer moved.ensures.held c.in-Bytes.ensures.before;
      given = c.in-Bytes.ensures.gives;
    })

pub returns-in-Failed-clause-kept : goal.returns-in-Failed-clause-kept
returns-in-Failed-clause-kept g c =
    let r = c.self.inside in
    let moved = c.make_room-self-inside in
    rw (← c.self.view_is) (
      filled_same r.buffer.items _ _ _ c.read_at.new.buffer _ _ r.buffer.len r.start moved.result r.held c.deref_mut.ensures.value moved.auto.buffer r.buffer.ok.0
          c.deref_mut-2.ensures.value c.read_at.auto.buffer moved.ensures.held c.in-Failed.ensures.before,
      c.in-Failed.ensures.kept,
    )
