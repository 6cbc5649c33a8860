-- What a refusal says in plain words.
--   words_of r   its words
use Rattle.std.specs.Prelude.{ℕ, List, codes}
use Rattle.faults.specs.declared.Refusal.{Refusal}
use Rattle.faults.specs.declared.Refusal.TheVariants.{JobBounds, ShortBuffer, JobEnd, NoEscape, NoEnding, UnknownLetters, WrongByte, NotAdmitted, LabelsOwed, NotWhileSaving, NotSaving, DraftFull, NoFormat, FieldLinked, JoinedTooLong, OutsideCheck, TooManyDrawings, NoSuchForm, FormTooLong, StoreFull, TooManyOrdered, NothingOwed, OutOfStock}

abbrev pub words_of : Refusal → List ℕ
words_of JobBounds = codes "the job is longer than 60000 bytes, or the place lies past its end"
words_of ShortBuffer = codes "a buffer is too short, or a size lies outside its limits"
words_of JobEnd = codes "the job ends here"
words_of NoEscape = codes "no command begins here: ESC is missing"
words_of NoEnding = codes "no LF with NUL behind it ends this command within 255 bytes"
words_of UnknownLetters = codes "no command has these letters"
words_of WrongByte = codes "a byte is missing, left over or of the wrong kind"
words_of NotAdmitted = codes "a value, a choice or a length is not admitted"
words_of LabelsOwed = codes "labels are owed: only the status and a reset are taken now"
words_of NotWhileSaving = codes "this can not be done while a form is saved, nor stand in a form"
words_of NotSaving = codes "no form is being saved"
words_of DraftFull = codes "with this command the form would be longer than 1024 bytes"
words_of NoFormat = codes "the field has no format"
words_of FieldLinked = codes "the text of a linked field comes from link strings alone"
words_of JoinedTooLong = codes "the link strings would make a text of more than 40 bytes"
words_of OutsideCheck = codes "a character lies outside the set of the field's check"
words_of TooManyDrawings = codes "the label has 24 drawings already"
words_of NoSuchForm = codes "the store has no form of this number"
words_of FormTooLong = codes "the form is longer than the store takes"
words_of StoreFull = codes "the store has no room for the form"
words_of TooManyOrdered = codes "more labels would be ordered than a station counts"
words_of NothingOwed = codes "no label is owed"
words_of OutOfStock = codes "the printer has no stock left"
