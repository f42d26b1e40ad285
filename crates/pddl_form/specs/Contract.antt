-- What the reader of domains promises to whoever takes one.
use Rattle.std.specs.Prelude.{◌≡◌, ℕ, ◌<◌, List, length, map, Some, slice_get}
use Rattle.pddl_types.specs.declared.domains.TypeDecl.{TypeDecl}
use Rattle.pddl_types.specs.declared.domains.Domain.{Domain}
use Rattle.pddl_types.specs.Readable.{IsDomain, AreNames}

-- by the parents from a type on one comes to `object`
pub data LeadsUp : List TypeDecl → ℕ → Type 0 where
  at_object : {types : List TypeDecl} {k : ℕ} → k ≡ 0 → LeadsUp types k
  leads_on : {types : List TypeDecl} {k : ℕ} (t : TypeDecl) → slice_get types k ≡ Some t → LeadsUp types t.parent → LeadsUp types k

-- the types are a forest under `object`
abbrev pub IsForest : List TypeDecl → Type 0
IsForest types = (k : ℕ) → k < length types → LeadsUp types k

-- the types are a forest, what stands in the domain speaks of what it declares, and each name is a word and declared once
pub record IsRead (d : Domain) : Type 0 where
  pub object : 0 < length d.types
  pub forest : IsForest d.types
  pub sound : IsDomain d
  pub types : AreNames (map (λ t. t.name) d.types)
  pub constants : AreNames (map (λ t. t.name) d.constants)
  pub predicates : AreNames (map (λ h. h.name) d.predicates)
  pub functions : AreNames (map (λ h. h.name) d.functions)
  pub actions : AreNames (map (λ s. s.name) d.schemas)
