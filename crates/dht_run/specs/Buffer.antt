-- What the buffer of a reader of lines means.
use Rattle.std.specs.Prelude.{◌≡◌, ◌≢◌, ℕ, ◌+◌, ◌<◌, ◌≤◌, take, drop, vec_len, slice_index}
use Rattle.dht_run.specs.declared.line_reader.TheConstants.{INPUT_LIMIT, BUFFER_SIZE}
use Rattle.dht_run.specs.declared.line_reader.LineReader.TheInside.{Inside}
use Rattle.dht_run.specs.LineReader.{Reader}

abbrev pub view_of : Inside → Reader
view_of r = record {
  line = take r.line_len (drop r.line_start r.buffer.items);
  pending = take r.held (drop r.start r.buffer.items);
  cut = r.cut;
}

pub record IsSound (r : Inside) : Type 0 where
  pub size : vec_len r.buffer ≡ BUFFER_SIZE
  pub line : r.line_start + r.line_len ≤ BUFFER_SIZE
  pub held : r.start + r.held ≤ BUFFER_SIZE
  pub scanned : r.scanned ≤ r.held
  pub passed : (k : ℕ) → k < r.scanned → slice_index r.buffer.items (r.start + k) ≢ 10
  pub cut : r.cut ≤ INPUT_LIMIT
  pub bounded : r.cut + r.held ≤ INPUT_LIMIT + 1
