use Rattle.std.proofs.Common.{List, ℕ, [], ◌∷◌, ap, ◌∙◌}
use Rattle.listing_defs.specs.Text.{hexadecimal, figure}
use Rattle.listing.proofs.Texts.{both_put, first_room, second_room}
use Rattle.listing.proofs.text.Text.put_figure.Goals as goal

pub put-requires : goal.put-requires
unfolding figure
put-requires c = first_room c.args.self.now (32 ∷ []) c.hexadecimal-digits.result (ap (λ (l : List ℕ). 32 ∷ l) (c.hexadecimal-digits.ensures ∙ ap (hexadecimal 16) c.listed_bits.ensures)) c.requires

pub put-requires-2 : goal.put-requires-2
unfolding figure
put-requires-2 c = second_room c.args.self.now (32 ∷ []) c.hexadecimal-digits.result c.put.ensures (ap (λ (l : List ℕ). 32 ∷ l) (c.hexadecimal-digits.ensures ∙ ap (hexadecimal 16) c.listed_bits.ensures)) c.requires

pub returns : goal.returns
unfolding figure
returns c = both_put c.args.self.now (32 ∷ []) c.hexadecimal-digits.result c.put.ensures c.put-2.ensures (ap (λ (l : List ℕ). 32 ∷ l) (c.hexadecimal-digits.ensures ∙ ap (hexadecimal 16) c.listed_bits.ensures))
