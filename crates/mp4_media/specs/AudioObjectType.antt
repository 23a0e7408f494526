-- The audio object types, with their numbers and short names (ISO/IEC 14496-3, 1.5.1.1).
use Rattle.std.specs.Prelude.{ℕ, List, [], ◌∷◌, Option, codes}
use Rattle.mp4_media.specs.Conversion.{by_number}
use Rattle.mp4_media.specs.declared.audio_object_type.AudioObjectType.{AudioObjectType}
use Rattle.mp4_media.specs.declared.audio_object_type.AudioObjectType.TheVariants as types

-- the table: numbers and short names
abbrev pub row_audio_object_type : AudioObjectType → ℕ × List ℕ
row_audio_object_type types.AacMain = (1, codes "AAC Main")
row_audio_object_type types.AacLowComplexity = (2, codes "LC")
row_audio_object_type types.AacScalableSampleRate = (3, codes "SSR")
row_audio_object_type types.AacLongTermPrediction = (4, codes "LTP")
row_audio_object_type types.SpectralBandReplication = (5, codes "SBR")
row_audio_object_type types.AACScalable = (6, codes "Scalable")
row_audio_object_type types.TwinVQ = (7, codes "TwinVQ")
row_audio_object_type types.CodeExcitedLinearPrediction = (8, codes "CELP")
row_audio_object_type types.HarmonicVectorExcitationCoding = (9, codes "HVXC")
row_audio_object_type types.TextToSpeechtInterface = (12, codes "TTSI")
row_audio_object_type types.MainSynthetic = (13, codes "Main Synthetic")
row_audio_object_type types.WavetableSynthesis = (14, codes "Wavetable Synthesis")
row_audio_object_type types.GeneralMIDI = (15, codes "General MIDI")
row_audio_object_type types.AlgorithmicSynthesis = (16, codes "Algorithmic Synthesis")
row_audio_object_type types.ErrorResilientAacLowComplexity = (17, codes "ER AAC LC")
row_audio_object_type types.ErrorResilientAacLongTermPrediction = (19, codes "ER AAC LTP")
row_audio_object_type types.ErrorResilientAacScalable = (20, codes "ER AAC scalable")
row_audio_object_type types.ErrorResilientAacTwinVQ = (21, codes "ER AAC TwinVQ")
row_audio_object_type types.ErrorResilientAacBitSlicedArithmeticCoding = (22, codes "ER AAC BSAC")
row_audio_object_type types.ErrorResilientAacLowDelay = (23, codes "ER AAC LD")
row_audio_object_type types.ErrorResilientCodeExcitedLinearPrediction = (24, codes "ER CELP")
row_audio_object_type types.ErrorResilientHarmonicVectorExcitationCoding = (25, codes "ER HVXC")
row_audio_object_type types.ErrorResilientHarmonicIndividualLinesNoise = (26, codes "ER HILN")
row_audio_object_type types.ErrorResilientParametric = (27, codes "ER Parametric")
row_audio_object_type types.SinuSoidalCoding = (28, codes "SSC")
row_audio_object_type types.ParametricStereo = (29, codes "Parametric Stereo")
row_audio_object_type types.MpegSurround = (30, codes "MPEG surround")
row_audio_object_type types.MpegLayer1 = (32, codes "MPEG Layer 1")
row_audio_object_type types.MpegLayer2 = (33, codes "MPEG Layer 2")
row_audio_object_type types.MpegLayer3 = (34, codes "MPEG Layer 3")
row_audio_object_type types.DirectStreamTransfer = (35, codes "DST")
row_audio_object_type types.AudioLosslessCoding = (36, codes "ALS")
row_audio_object_type types.ScalableLosslessCoding = (37, codes "SLS")
row_audio_object_type types.ScalableLosslessCodingNoneCore = (38, codes "SLS Non-core")
row_audio_object_type types.ErrorResilientAacEnhancedLowDelay = (39, codes "ER AAC ELD")
row_audio_object_type types.SymbolicMusicRepresentationSimple = (40, codes "SMR Simple")
row_audio_object_type types.SymbolicMusicRepresentationMain = (41, codes "SMR Main")
row_audio_object_type types.UnifiedSpeechAudioCoding = (42, codes "USAC")
row_audio_object_type types.SpatialAudioObjectCoding = (43, codes "SAOC")
row_audio_object_type types.LowDelayMpegSurround = (44, codes "LD MPEG Surround")
row_audio_object_type types.SpatialAudioObjectCodingDialogueEnhancement = (45, codes "SAOC-DE")
row_audio_object_type types.AudioSync = (46, codes "Audio Sync")

abbrev pub number_audio_object_type : AudioObjectType → ℕ
number_audio_object_type t = (row_audio_object_type t).0

abbrev pub text_audio_object_type : AudioObjectType → List ℕ
text_audio_object_type t = (row_audio_object_type t).1

abbrev pub audio_object_types : List AudioObjectType
audio_object_types =
    types.AacMain ∷
    types.AacLowComplexity ∷
    types.AacScalableSampleRate ∷
    types.AacLongTermPrediction ∷
    types.SpectralBandReplication ∷
    types.AACScalable ∷
    types.TwinVQ ∷
    types.CodeExcitedLinearPrediction ∷
    types.HarmonicVectorExcitationCoding ∷
    types.TextToSpeechtInterface ∷
    types.MainSynthetic ∷
    types.WavetableSynthesis ∷
    types.GeneralMIDI ∷
    types.AlgorithmicSynthesis ∷
    types.ErrorResilientAacLowComplexity ∷
    types.ErrorResilientAacLongTermPrediction ∷
    types.ErrorResilientAacScalable ∷
    types.ErrorResilientAacTwinVQ ∷
    types.ErrorResilientAacBitSlicedArithmeticCoding ∷
    types.ErrorResilientAacLowDelay ∷
    types.ErrorResilientCodeExcitedLinearPrediction ∷
    types.ErrorResilientHarmonicVectorExcitationCoding ∷
    types.ErrorResilientHarmonicIndividualLinesNoise ∷
    types.ErrorResilientParametric ∷
    types.SinuSoidalCoding ∷
    types.ParametricStereo ∷
    types.MpegSurround ∷
    types.MpegLayer1 ∷
    types.MpegLayer2 ∷
    types.MpegLayer3 ∷
    types.DirectStreamTransfer ∷
    types.AudioLosslessCoding ∷
    types.ScalableLosslessCoding ∷
    types.ScalableLosslessCodingNoneCore ∷
    types.ErrorResilientAacEnhancedLowDelay ∷
    types.SymbolicMusicRepresentationSimple ∷
    types.SymbolicMusicRepresentationMain ∷
    types.UnifiedSpeechAudioCoding ∷
    types.SpatialAudioObjectCoding ∷
    types.LowDelayMpegSurround ∷
    types.SpatialAudioObjectCodingDialogueEnhancement ∷
    types.AudioSync ∷ []

-- the audio object type that has this number
unfoldable pub audio_object_type_of : ℕ → Option AudioObjectType
audio_object_type_of n = by_number number_audio_object_type audio_object_types n
