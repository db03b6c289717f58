-- The first of a number's eight bytes are its bytes.
use Rattle.std.proofs.Common.{◌≡◌, ◌∙◌, ap, take, length, List, ℕ}
use Rattle.casefile_theorems.specs.Writer.{bytes}
use Rattle.casefile_theorems.proofs.Bytes.{length_bytes}
use Rattle.casefile_writer.proofs.Puts.{grown_by, low_bytes}
use Rattle.casefile_writer.proofs.bytes.Bytes.put_bytes.Goals as goal

pub returns : goal.returns
returns g c =
    let w = g.row.WIDTH in
    let e : take w c.to_le_bytes.result ≡ bytes w c.args.n = ap (λ (l : List ℕ). take w l) c.to_le_bytes.ensures ∙ low_bytes w c.args.n c.requires.width_in_bounds in
    grown_by (ap length e ∙ length_bytes w c.args.n) e c.put.ensures
