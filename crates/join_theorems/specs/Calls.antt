-- What an answer of `join_cases` is: h and p, k and q are the two cases, j what is said and r the joined tables then.
use Rattle.std.specs.Prelude.{◌+◌, true, ◌≡◌}
use Rattle.refusal.specs.Reply.{no_refusal}
use Rattle.casefile_defs.specs.Tables.{Places}
use Rattle.casefile_defs.specs.declared.Header.{Header}
use Rattle.case_defs.specs.Cases.{case_as, case_in}
use Rattle.plan_defs.specs.Accept.{case_check}
use Rattle.join_defs.specs.Districts.{joined_case, alike}

pub record Joined (h k j : Header) (p q r : Places) : Type 0 where
  -- the tables hold the joined case, the products of reading and weight for loads; targets add
  pub case : case_in j r ≡ joined_case (case_as h p) (case_as k q)
  pub target : j.target ≡ h.target + k.target
  -- the two have one mode, ladder and count of requested levels
  pub same : alike (case_as h p) (case_as k q) ≡ true
  -- planning accepts it
  pub accepted : case_check (case_in j r) j.target ≡ no_refusal
