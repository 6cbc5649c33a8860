-- The fixed sizes of a station and of what it is given, as src/sizes.rt has them.
use Rattle.std.specs.Prelude.{ℕ}
use Rattle.limits.specs.declared.sizes.TheConstants.{LONGEST_TEXT, LONGEST_FINISHED, LONGEST_JOB, LONGEST_COMMAND, LONGEST_FORM, LARGEST_TOTAL, LAST_FORM, TEXT_FIELDS, BAR_FIELDS, MOST_LINKS, LAST_LINK, LONGEST_LINE, LAST_TAG, LARGEST_ROLL, PICTURE_ROWS, ROW_BYTES, PICTURE_BYTES, MOST_DRAWINGS}

-- bytes of a text, and of a finished text, which may have one check character more
abbrev pub longest_text : ℕ
longest_text = LONGEST_TEXT

abbrev pub longest_finished : ℕ
longest_finished = LONGEST_FINISHED

-- bytes of a job, and of one command with its ESC, LF and NUL
abbrev pub longest_job : ℕ
longest_job = LONGEST_JOB

abbrev pub longest_command : ℕ
longest_command = LONGEST_COMMAND

-- bytes of a form, and of all forms of a store; forms are numbered from 1
abbrev pub longest_form : ℕ
longest_form = LONGEST_FORM

abbrev pub largest_total : ℕ
largest_total = LARGEST_TOTAL

abbrev pub last_form : ℕ
last_form = LAST_FORM

-- text fields and bar fields of a label; both are numbered from 1
abbrev pub text_fields : ℕ
text_fields = TEXT_FIELDS

abbrev pub bar_fields : ℕ
bar_fields = BAR_FIELDS

-- links of one field, and link strings, which are numbered from 1
abbrev pub most_links : ℕ
most_links = MOST_LINKS

abbrev pub last_link : ℕ
last_link = LAST_LINK

-- bytes of a finished tag's line
abbrev pub longest_line : ℕ
longest_line = LONGEST_LINE

-- the tags after which a printer is not loaded again
abbrev pub last_tag : ℕ
last_tag = LAST_TAG

-- tags of a roll
abbrev pub largest_roll : ℕ
largest_roll = LARGEST_ROLL

-- the picture: rows, bytes of a row, and bytes of the whole
abbrev pub picture_rows : ℕ
picture_rows = PICTURE_ROWS

abbrev pub row_bytes : ℕ
row_bytes = ROW_BYTES

abbrev pub picture_bytes : ℕ
picture_bytes = PICTURE_BYTES

-- drawings of a label
abbrev pub most_drawings : ℕ
most_drawings = MOST_DRAWINGS
