-- A command as it was read, with places and bytes as numbers and lists.
--   CommandSeen         a command's letters and its parts in the order of the table
--   .._slots      the parts of the code's command, in that order
--   label_letters, station_letters   the letters of a command to the label, and of one to the station itself
--   seen_command      a command of the code so
--   command_at c  what the table says of a body of the command c whose parts begin at a place
use Rattle.std.specs.Prelude.{ℕ, List, [], ◌∷◌, ◌++◌, Ok, Err, Result}
use Rattle.jobparts.specs.Grammar.{row_at}
use Rattle.jobparts.specs.Parts.{PartSeen, then, seen_part, seen_option, seen_source}
use Rattle.jobparts.specs.declared.part.Wrong.{Wrong}
use Rattle.jobgroups.specs.Table.{parts_of}
use Rattle.jobgroups.specs.declared.letters.Letters.{Letters}
use Rattle.jobgroups.specs.declared.letters.Letters.TheVariants.{OfLabel, OfStation}
use Rattle.jobgroups.specs.declared.letters.LabelLetters.{LabelLetters}
use Rattle.jobgroups.specs.declared.letters.LabelLetters.TheVariants.{D, C, Pc, Xb, RcLinks, Rc, Rb, Lc, Xr}
use Rattle.jobgroups.specs.declared.letters.StationLetters.{StationLetters}
use Rattle.jobgroups.specs.declared.letters.StationLetters.TheVariants.{Xs, Xo, Xp, Xq, J1, Ws, Wr}
use Rattle.jobgroups.specs.declared.command.Command.{Command}
use Rattle.jobgroups.specs.declared.command.Command.TheVariants.{Label, Station}
use Rattle.jobgroups.specs.declared.command.LabelCommand.{LabelCommand}
use Rattle.jobgroups.specs.declared.command.LabelCommand.TheVariants.{SetSize, Clear, FormatText, FormatBar, SetLinks, SetText, SetBar, DrawLine, MarkArea}
use Rattle.jobgroups.specs.declared.command.StationCommand.{StationCommand}
use Rattle.jobgroups.specs.declared.command.StationCommand.TheVariants.{PrintIssue, BeginSaving, EndSaving, RecallForm, EmptyStore, WriteStatus, Reset}
use Rattle.jobgroups.specs.declared.command.Size.{Size}
use Rattle.jobgroups.specs.declared.command.Point.{Point}
use Rattle.jobgroups.specs.declared.command.Magnification.{Magnification}
use Rattle.jobgroups.specs.declared.command.Lettering.{Lettering}
use Rattle.jobgroups.specs.declared.command.Height.{Height}
use Rattle.jobgroups.specs.declared.command.Extras.{Extras}
use Rattle.jobgroups.specs.declared.command.BarType.{BarType}
use Rattle.jobgroups.specs.declared.command.Widths.{Widths}
use Rattle.jobgroups.specs.declared.command.Ends.{Ends}
use Rattle.jobgroups.specs.declared.command.Shape.{Shape}
use Rattle.jobgroups.specs.declared.command.Count.{Count}
use Rattle.jobgroups.specs.declared.command.Setup.{Setup}
use Rattle.jobgroups.specs.declared.command.Form.{Form}
use Rattle.jobgroups.specs.declared.command.TextFormat.{TextFormat}
use Rattle.jobgroups.specs.declared.command.BarFormat.{BarFormat}
use Rattle.jobgroups.specs.declared.command.FieldText.{FieldText}
use Rattle.jobgroups.specs.declared.command.Line.{Line}
use Rattle.jobgroups.specs.declared.command.Area.{Area}
use Rattle.jobgroups.specs.declared.command.Issue.{Issue}
use Rattle.jobgroups.specs.declared.command.Recall.{Recall}

pub record CommandSeen : Type 0 where
  pub letters : Letters
  pub parts : List PartSeen

abbrev pub size_parts : Size → List PartSeen
size_parts s = seen_part s.pitch ∷ seen_part s.width ∷ seen_part s.length ∷ []

abbrev pub point_parts : Point → List PartSeen
point_parts p = seen_part p.x ∷ seen_part p.y ∷ []

abbrev pub magnification_parts : Magnification → List PartSeen
magnification_parts m = seen_part m.across ∷ seen_part m.down ∷ []

abbrev pub lettering_parts : Lettering → List PartSeen
lettering_parts l = seen_part l.font ∷ seen_part l.rotation ∷ seen_part l.attribute ∷ []

abbrev pub extras_parts : Extras → List PartSeen
extras_parts e = seen_option e.step ∷ seen_option e.kept ∷ seen_source e.source ∷ []

abbrev pub type_parts : BarType → List PartSeen
type_parts t = seen_part t.kind ∷ seen_part t.check ∷ []

abbrev pub widths_parts : Widths → List PartSeen
widths_parts w =
    seen_part w.narrow_bar ∷ seen_part w.narrow_space ∷ seen_part w.wide_bar ∷ seen_part w.wide_space ∷ seen_part w.gap ∷ []

abbrev pub height_parts : Height → List PartSeen
height_parts h = seen_part h.rotation ∷ seen_part h.height ∷ []

abbrev pub ends_parts : Ends → List PartSeen
ends_parts e = point_parts e.from ++ point_parts e.to

abbrev pub shape_parts : Shape → List PartSeen
shape_parts s = seen_part s.kind ∷ seen_part s.dots ∷ []

abbrev pub count_parts : Count → List PartSeen
count_parts n = seen_part n.labels ∷ seen_part n.cut ∷ []

abbrev pub form_parts : Form → List PartSeen
form_parts f = seen_part f.form ∷ seen_part f.response ∷ []

abbrev pub setup_parts : Setup → List PartSeen
setup_parts s =
    seen_part s.sensor ∷ seen_part s.mode ∷ seen_part s.speed ∷ seen_part s.ribbon ∷ seen_part s.rotation
    ∷ seen_part s.response ∷ []

abbrev pub text_format_parts : TextFormat → List PartSeen
text_format_parts f =
    seen_part f.field ∷ (point_parts f.origin ++
    (magnification_parts f.magnification ++
    (lettering_parts f.lettering ++ seen_option f.check ∷ extras_parts f.extras)))

abbrev pub bar_format_parts : BarFormat → List PartSeen
bar_format_parts f =
    seen_part f.field ∷ (point_parts f.origin ++
    (type_parts f.code ++ (widths_parts f.widths ++ (height_parts f.height ++ extras_parts f.extras))))

abbrev pub field_text_parts : FieldText → List PartSeen
field_text_parts t = seen_part t.field ∷ seen_part t.text ∷ []

abbrev pub line_parts : Line → List PartSeen
line_parts l = ends_parts l.ends ++ shape_parts l.shape

abbrev pub area_parts : Area → List PartSeen
area_parts a = ends_parts a.ends ++ seen_part a.action ∷ []

abbrev pub issue_parts : Issue → List PartSeen
issue_parts i = count_parts i.count ++ setup_parts i.setup

abbrev pub recall_parts : Recall → List PartSeen
recall_parts r = form_parts r.form ++ seen_part r.target ∷ []

abbrev pub label_letters : LabelCommand → LabelLetters
label_letters (SetSize s) = D
label_letters Clear = C
label_letters (FormatText f) = Pc
label_letters (FormatBar f) = Xb
label_letters (SetLinks t) = RcLinks
label_letters (SetText t) = Rc
label_letters (SetBar t) = Rb
label_letters (DrawLine l) = Lc
label_letters (MarkArea a) = Xr

abbrev pub label_slots : LabelCommand → List PartSeen
label_slots (SetSize s) = size_parts s
label_slots Clear = []
label_slots (FormatText f) = text_format_parts f
label_slots (FormatBar f) = bar_format_parts f
label_slots (SetLinks t) = seen_part t ∷ []
label_slots (SetText t) = field_text_parts t
label_slots (SetBar t) = field_text_parts t
label_slots (DrawLine l) = line_parts l
label_slots (MarkArea a) = area_parts a

abbrev pub station_letters : StationCommand → StationLetters
station_letters (PrintIssue i) = Xs
station_letters (BeginSaving s) = Xo
station_letters EndSaving = Xp
station_letters (RecallForm r) = Xq
station_letters EmptyStore = J1
station_letters WriteStatus = Ws
station_letters Reset = Wr

abbrev pub station_slots : StationCommand → List PartSeen
station_slots (PrintIssue i) = issue_parts i
station_slots (BeginSaving s) = form_parts s
station_slots EndSaving = []
station_slots (RecallForm r) = recall_parts r
station_slots EmptyStore = []
station_slots WriteStatus = []
station_slots Reset = []

abbrev pub seen_command : Command → CommandSeen
seen_command (Label c) = record { letters = OfLabel (label_letters c); parts = label_slots c }
seen_command (Station c) = record { letters = OfStation (station_letters c); parts = station_slots c }

abbrev pub seen_reading : Result Command Wrong → Result CommandSeen Wrong
seen_reading (Ok c) = Ok (seen_command c)
seen_reading (Err e) = Err e

abbrev pub command_at : Letters → List ℕ → ℕ → Result CommandSeen Wrong
command_at c body at = then (row_at (parts_of c) [] body at) (λ parts. Ok (record { letters = c; parts = parts }))
