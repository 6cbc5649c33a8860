-- What a station refuses: the number, the layer and the layer's letter of each refusal.
--   number_of r   the number under which r is told
--   layer_of r    the layer that refuses
--   letter_of l   the letter under which a layer is told
use Rattle.std.specs.Prelude.{ℕ}
use Rattle.faults.specs.declared.Refusal.{Refusal}
use Rattle.faults.specs.declared.Refusal.TheVariants.{JobBounds, ShortBuffer, JobEnd, NoEscape, NoEnding, UnknownLetters, WrongByte, NotAdmitted, LabelsOwed, NotWhileSaving, NotSaving, DraftFull, NoFormat, FieldLinked, JoinedTooLong, OutsideCheck, TooManyDrawings, NoSuchForm, FormTooLong, StoreFull, TooManyOrdered, NothingOwed, OutOfStock}
use Rattle.faults.specs.declared.Layer.{Layer}
use Rattle.faults.specs.declared.Layer.TheVariants.{Job, Station, Label, Store, Printer}

abbrev pub number_of : Refusal → ℕ
number_of JobBounds = 1
number_of ShortBuffer = 2
number_of JobEnd = 3
number_of NoEscape = 4
number_of NoEnding = 5
number_of UnknownLetters = 6
number_of WrongByte = 7
number_of NotAdmitted = 8
number_of LabelsOwed = 9
number_of NotWhileSaving = 10
number_of NotSaving = 11
number_of DraftFull = 12
number_of NoFormat = 13
number_of FieldLinked = 14
number_of JoinedTooLong = 15
number_of OutsideCheck = 16
number_of TooManyDrawings = 17
number_of NoSuchForm = 18
number_of FormTooLong = 19
number_of StoreFull = 20
number_of TooManyOrdered = 21
number_of NothingOwed = 22
number_of OutOfStock = 23

abbrev pub layer_of : Refusal → Layer
layer_of JobBounds = Job
layer_of ShortBuffer = Job
layer_of JobEnd = Job
layer_of NoEscape = Job
layer_of NoEnding = Job
layer_of UnknownLetters = Job
layer_of WrongByte = Job
layer_of NotAdmitted = Job
layer_of LabelsOwed = Station
layer_of NotWhileSaving = Station
layer_of NotSaving = Station
layer_of DraftFull = Station
layer_of NoFormat = Label
layer_of FieldLinked = Label
layer_of JoinedTooLong = Label
layer_of OutsideCheck = Label
layer_of TooManyDrawings = Label
layer_of NoSuchForm = Store
layer_of FormTooLong = Store
layer_of StoreFull = Store
layer_of TooManyOrdered = Station
layer_of NothingOwed = Station
layer_of OutOfStock = Printer

abbrev pub letter_of : Layer → ℕ
letter_of Job = 74
letter_of Station = 83
letter_of Label = 76
letter_of Store = 70
letter_of Printer = 80
