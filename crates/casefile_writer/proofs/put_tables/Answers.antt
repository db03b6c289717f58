use Rattle.std.proofs.Common.{arith}
use Rattle.case_tables.proofs.Sized.{sizes_true}
use Rattle.casefile_writer.proofs.put_tables.Goals as goal

pub put_case_file-requires-clause-sheet_value : goal.put_case_file-requires-clause-sheet_value
put_case_file-requires-clause-sheet_value c =
    sizes_true _ (record {
      ladder = omega arith;
      tier = omega arith;
      reading = omega arith;
      weight = omega arith;
      bus = omega arith;
      slack = omega arith;
      pmin = omega arith;
      pmax = omega arith;
      c1 = omega arith;
      c2 = omega arith;
      a = omega arith;
      b = omega arith;
      circuits = omega arith;
      length_km = omega arith;
      share = omega arith;
      cap = omega arith;
      sheet = omega arith;
    })
