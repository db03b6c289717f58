use Rattle.std.proofs.Common.{sym, ap, ◌∙◌, arith}
use Rattle.dispatch_defs.specs.declared.Bracket.{Bracket}
use Rattle.dispatch_defs.specs.Share.{price_of}
use Rattle.dispatch.proofs.Sharing.{halving_ends, halving_goes_on, halvings_spent}
use Rattle.dispatch.proofs.price.price.Goals as goal

pub returns-then-is_narrow : goal.returns-then-is_narrow
unfolding price_of
returns-then-is_narrow c =
    ap (λ (x : Bracket). x.hi) (sym (halving_ends _ _ c.loop.counter _ _ (omega arith) c.halve-b.ensures (sym c.is_narrow.ensures ∙ c.if-is_narrow.true)) ∙ c.loop.invariant)

pub loop-preserved : goal.loop-preserved
loop-preserved c =
    sym (halving_goes_on _ _ c.loop.counter _ _ (omega arith) c.halve-b.ensures (sym c.is_narrow.ensures ∙ c.if-is_narrow.false)) ∙ c.loop.invariant

pub returns : goal.returns
unfolding price_of
returns c = ap (λ (x : Bracket). x.hi) (sym (halvings_spent _ _ c.loop.counter _ (omega arith)) ∙ c.loop.invariant)
