-- Of all that a fact asks, a part alone isn't met.

pub record FailsBy (part whole : Type 0) : Type 0 where
  pub needs : whole → part
  pub suffices : part → whole
  pub fails : ¬ part
