-- Inner: serves this crate's own proofs alone.
-- A shelf that tells the texts of a sample, and what they lead to there.
use Rattle.std.specs.Prelude.{ℕ, List, cond, codes}
use Rattle.std.specs.Str.{bytes_eq}
use Rattle.bd_base.specs.Shelf.{Told, absent, text}
use Rattle.bd_gen.specs.declared.sample.Sample.{Sample}
use Rattle.task_inputs.specs.Inputs.{LeadsTo}
use Rattle.task_inputs.specs.Reads.{Counts}
use Rattle.task_inputs.specs.declared.answers.Inputs.{Inputs}

abbrev pub told_of : Sample → List ℕ → Told
told_of s name =
    cond (bytes_eq name (codes "domain")) (text s.domain)
    (cond (bytes_eq name (codes "problem")) (text s.problem)
    (cond (bytes_eq name (codes "plan")) (text s.plan) absent))

-- nothing failed, and each text was short or was told to be long
pub record LeadsQuietly (s : Sample) (result : Inputs) : Type 0 where
  pub longs : ℕ
  pub leads : LeadsTo (text s.domain) (text s.problem) (text s.plan) (record { faults = 0; faults_after = 0; longs = 0; longs_after = longs }) result
