use Rattle.aea_fates.proofs.laws.determined_stay.Goals as goal

pub returns : goal.returns
returns c l known more adds b = (
  λ h w xs ys hx hy agree. h w xs ys hx hy (λ d has is_known. agree d has (adds.within d has is_known)),
  λ h w xs ys hx hy agree. h w xs ys hx hy (λ d has marked. adds.determined d has marked w xs ys hx hy agree),
)
