use Rattle.std.proofs.Common.{[], ◌∷◌, ap, ◌∙◌, List, ℕ}
use native.Mathlib.Omega.{arith}
use Rattle.streams.proofs.Text.{digits_are}
use Rattle.listing.proofs.Numbers.{number_text}
use Rattle.listing.proofs.Texts.{both_put, first_room, second_room}
use Rattle.listing.proofs.text.Text.put_number.Goals as goal

pub put-requires : goal.put-requires
put-requires c = first_room c.args.self.now (32 ∷ []) _ (number_text c.args.n (omega arith)) c.requires

pub put-requires-2 : goal.put-requires-2
put-requires-2 c =
    let d = c.decimal-size in
    second_room c.args.self.now (32 ∷ []) _ c.put.ensures (ap (λ (l : List ℕ). 32 ∷ l) (d.ensures.digits ∙ digits_are c.args.n d.result (omega arith) d.ensures.len) ∙ number_text c.args.n (omega arith)) c.requires

pub returns : goal.returns
returns c =
    let d = c.decimal-size in
    both_put c.args.self.now (32 ∷ []) _ c.put.ensures c.put-2.ensures (ap (λ (l : List ℕ). 32 ∷ l) (d.ensures.digits ∙ digits_are c.args.n d.result (omega arith) d.ensures.len) ∙ number_text c.args.n (omega arith))
