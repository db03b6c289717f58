use Rattle.std.proofs.Common.{lt-ltb, le-ltb}
use Rattle.loops.proofs.Scan.{fault_some, fault_passed}
use Rattle.line_defs.specs.Request.{tests_of}
use Rattle.line_sheet.proofs.check.check.Goals as goal

pub returns-in-Some-outside : goal.returns-in-Some-outside
unfolding tests_of
returns-in-Some-outside c =
    let i = fault_passed _ _ c.in_default.ensures in
    let k = fault_some _ _ _ c.in-Some-outside.ensures in
    rw (← c.lengths_ok.ensures, c.if-not-lengths_ok.false, ← c.counts_ok.ensures, c.if-not-counts_ok.false, le-ltb _ _ i, ← k.0, lt-ltb _ _ k.1)

pub returns-in-Some-outside-2 : goal.returns-in-Some-outside-2
unfolding tests_of
returns-in-Some-outside-2 c =
    let i = fault_passed _ _ c.in_default.ensures in
    let k = fault_passed _ _ c.in_default-outside.ensures in
    let s = fault_some _ _ _ c.in-Some-outside-2.ensures in
    rw (← c.lengths_ok.ensures, c.if-not-lengths_ok.false, ← c.counts_ok.ensures, c.if-not-counts_ok.false, le-ltb _ _ i, le-ltb _ _ k, ← s.0, lt-ltb _ _ s.1)

pub returns : goal.returns
unfolding tests_of
returns c =
    let i = fault_passed _ _ c.in_default.ensures in
    let k = fault_passed _ _ c.in_default-outside.ensures in
    let s = fault_passed _ _ c.in_default-outside-2.ensures in
    rw (← c.lengths_ok.ensures, c.if-not-lengths_ok.false, ← c.counts_ok.ensures, c.if-not-counts_ok.false, le-ltb _ _ i, le-ltb _ _ k, le-ltb _ _ s)
