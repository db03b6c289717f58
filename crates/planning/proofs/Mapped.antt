-- What `map_err` says where its answer is taken or handed on: an answer was one before, and a refusal is made of the one before.
use Rattle.std.proofs.Common.{◌≡◌, Ok, Err, Result, refl, subst}
use Rattle.std.specs.Result.{MatchResult, IsErrAnd}

pub mapped_answer : {T E D : Type 0} (post : E → D → Type 0) (r : Result T E) (q : Result T D) → MatchResult r (λ x. q ≡ Ok x) (λ e. IsErrAnd q (post e)) → (x : T) → q ≡ Ok x → r ≡ Ok x
mapped_answer post (Ok y) q m x e = cc
mapped_answer post (Err f) (Ok z) m x e = absurd m
mapped_answer post (Err f) (Err d) m x e = absurd (cc)

pub mapped_refusal : {T E D : Type 0} (post : E → D → Type 0) (r : Result T E) (q : Result T D) → MatchResult r (λ x. q ≡ Ok x) (λ e. IsErrAnd q (post e)) → (d : D) → q ≡ Err d
    → (f : E) × (r ≡ Err f) × post f d
mapped_refusal post (Ok y) q m d e = absurd (cc)
mapped_refusal post (Err f) (Ok z) m d e = absurd m
mapped_refusal post (Err f) (Err z) m d e = let w : z ≡ d = cc in (f, refl, subst (post f) w m)
