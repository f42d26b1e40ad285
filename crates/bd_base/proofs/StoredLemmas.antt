-- A set in any of its forms.
use Rattle.bd_base.specs.Facts.{IsRising}
use Rattle.bd_base.specs.FactSet.{facts_of, IsStored}
use Rattle.bd_base.specs.declared.forms.Form.{Form}
use Rattle.bd_base.specs.declared.forms.Form.TheVariants.{Empty, Plain, Numbered}
use Rattle.bd_base.proofs.SetLemmas.{rising-row}
use Rattle.bd_base.proofs.CellLemmas.{rising-cells}

pub rising_stored : (form : Form) → IsStored form → IsRising (facts_of form)
rising_stored Empty fits = tt
rising_stored (Plain words) fits = rising-row words.items 0
rising_stored (Numbered cells) fits = rising-cells 0 _ cells.items fits
