-- The first i records are put.
use Rattle.std.proofs.Common.{◌≡◌, ◌+◌, ◌*◌, ◌<◌, ◌≤◌, ℕ, length}
use Rattle.casefile_theorems.specs.Writer.{table_bytes}
use Rattle.casefile_writer.specs.Grown.{Grown}
use Rattle.casefile_writer.proofs.bytes.Bytes.put_table.Given as goal

abbrev pub invariant-loop-i : goal.invariant-loop-i
invariant-loop-i g l = record {
  room : length l.self.out.now ≡ length l.fn.self.out.now;
  size : l.self.len ≤ l.fn.self.len + l.i * g.R.Record.most;
  grown : (f : ℕ → _) → ((i : ℕ) (r : _) → i < l.count → goal.F-post g l.fn.record_at i r → r ≡ f i) → let t = table_bytes (λ i. g.R.Record.kind (f i)) l.i (λ i. g.R.Record.fields (f i)) in Grown l.fn.self l.self (length t) t;
}
