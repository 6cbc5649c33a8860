-- The refusal that tells a store's fault to the outside.
use Rattle.faults.specs.declared.Refusal.{Refusal}
use Rattle.faults.specs.declared.Refusal.TheVariants.{NoSuchForm, FormTooLong, StoreFull}
use Rattle.stores.specs.declared.answers.StoreFault.{StoreFault}
use Rattle.stores.specs.declared.answers.StoreFault.TheVariants.{NoForm, TooLong, Full}

abbrev pub refusal_of : StoreFault → Refusal
refusal_of NoForm = NoSuchForm
refusal_of TooLong = FormTooLong
refusal_of Full = StoreFull
