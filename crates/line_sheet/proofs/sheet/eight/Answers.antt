use Rattle.std.proofs.Common.{◌<◌, ◌-◌, List, length, take, drop, ap, ◌∙◌, subst, arith, get_or-take, get_or-drop}
use Rattle.std.specs.Option.{MatchOption}
use Rattle.std.specs.Array.{IsFirstChunk}
use lib.Ieee.{Float, nan}
use Rattle.loops.specs.Figures.{at}
use Rattle.line_sheet.proofs.sheet.eight.Goals as goal

pub returns : goal.returns
returns c =
    let s = c.args.figures.now in
    let l = take (length s - c.args.k) (drop c.args.k s) in
    let first = subst (λ o. MatchOption o (length l < 8) (λ y. IsFirstChunk l y.now 8)) c.unwrap.ensures c.first_chunk.ensures.cases in
    λ j h. ap (λ (z : List Float). at z j) first.same ∙ get_or-take 8 l j nan h ∙ get_or-take (length s - c.args.k) (drop c.args.k s) j nan (omega (arith, c.requires)) ∙ get_or-drop c.args.k s j nan
